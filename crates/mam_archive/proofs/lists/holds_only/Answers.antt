use Rattle.std.proofs.Common.{rules, ◌≡◌, ◌∙◌, ap, sym, subst, ℕ, List, Some, false, slice_get}
use Rattle.mam_archive.specs.Lists.{AreOf, IdList, held, list_at, rows_with}
use Rattle.mam_archive.specs.Peers.{face, key}
use Rattle.mam_archive.proofs.ListLemmas.{only-of}
use Rattle.mam_archive.proofs.lists.holds_only.Goals as goal

pub returns-then-not-is_mixed : goal.returns-then-not-is_mixed
returns-then-not-is_mixed c = λ hash_key made word was same.
    let e = c.args.extent in
    let es = c.args.lists.now.entries in
    let peer = c.args.peer.now in
    let at : list_at (key hash_key e peer) es ≡ c.in-Some.list.now =
    ap (λ (k : ℕ). list_at k es) (sym word) ∙ ap held (sym c.in-Some.ensures.value) in
    let fine : c.in-Some.list.now.mixed ≡ false = search rules in
    let first : Some c.in-Some-first.first.now ≡ slice_get c.in-Some.list.now.ids 0 =
    c.in-Some-first.ensures.value ∙ ap (λ (l : List ℕ). slice_get l 0) c.slice.ensures in
    let alike : face e c.in-Some-row_of.row.now.peer ≡ face e peer = search rules in
    subst (λ (k : ℕ). AreOf e (face e peer) (rows_with hash_key e k c.args.rows.now)) (sym word)
    (only-of hash_key e c.args.rows.now made es peer c.in-Some-first.first.now c.in-Some-row_of.row.now c.requires.ids was
    (first ∙ ap (λ (l : IdList). slice_get l.ids 0) (sym at)) c.in-Some-row_of.ensures
    (ap (λ (l : IdList). l.mixed) at ∙ fine) alike)
