use Rattle.std.proofs.Common.{◌≡◌, ◌∙◌, ap, sym, subst, drop, ℕ, List}
use Rattle.rsm_paging.specs.declared.ask.Row.{Row}
use Rattle.mam_archive.specs.Archives.{Archive}
use Rattle.mam_archive.specs.Lists.{AreOf, IsListed, list_at, rows_with}
use Rattle.mam_archive.specs.Peers.{extent_of, face, key}
use Rattle.mam_archive.specs.declared.peers.Extent.{Extent}
use Rattle.mam_archive.proofs.PickedLemmas.{picked-is}
use Rattle.mam_archive.proofs.archive.Archive.picked.Goals as goal

pub returns-then-holds_only : goal.returns-then-holds_only
returns-then-holds_only c =
    let asked = c.args.asked.now in
    let a = c.self.inside in
    let es = c.lists-lists.result.now.entries in
    let kept : List Row = c.args.self.now.kept in
    let is : kept ≡ drop a.gone a.rows.items = sym (ap (λ (v : Archive). v.kept) c.self.view_is) in
    let e : c.extent_of-extent.result ≡ extent_of asked = c.extent_of-extent.ensures in
    let was : IsListed a.hash_key c.extent_of-extent.result kept a.made es =
    subst (λ (l : List Row). IsListed a.hash_key c.extent_of-extent.result l a.made es) (sym is)
    (c.lists-lists.ensures a.hash_key (drop a.gone a.rows.items) a.made c.self.invariant.indexed) in
    let all = c.holds_only.ensures a.hash_key a.made c.key_of-key.ensures
    (subst (λ (l : List Row). IsListed a.hash_key c.extent_of-extent.result l a.made es) (sym c.rows.ensures.kept) was) c.if-holds_only.true in
    let all-kept = subst (λ (l : List Row). AreOf c.extent_of-extent.result (face c.extent_of-extent.result asked)
    (rows_with a.hash_key c.extent_of-extent.result (key a.hash_key c.extent_of-extent.result asked) l)) c.rows.ensures.kept
    (subst (λ (k : ℕ). AreOf c.extent_of-extent.result (face c.extent_of-extent.result asked)
    (rows_with a.hash_key c.extent_of-extent.result k c.rows.result.now)) c.key_of-key.ensures all) in
    c.ids_at.ensures ∙ ap (λ (k : ℕ). (list_at k es).ids) (c.key_of-key.ensures ∙ ap (λ (x : Extent). key a.hash_key x asked) e)
    ∙ picked-is a.hash_key asked kept a.made es (subst (λ (x : Extent). IsListed a.hash_key x kept a.made es) e was)
    (subst (λ (x : Extent). AreOf x (face x asked) (rows_with a.hash_key x (key a.hash_key x asked) kept)) e all-kept)
