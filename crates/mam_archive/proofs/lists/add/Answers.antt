use Rattle.std.proofs.Common.{◌≡◌, ◌∙◌, ◌<◌, ◌++◌, ◌∷◌, ◌-◌, [], ℕ, ap, sym, subst, Bool, not}
use Rattle.jid_core.specs.Addresses.{Address}
use Rattle.mam_archive.specs.Lists.{AreOf, IdList, KeepsOthers, list_at, rows_with}
use Rattle.mam_archive.specs.Peers.{face, key}
use Rattle.mam_archive.proofs.ListLemmas.{listed-added}
use Rattle.mam_archive.proofs.lists.add.Goals as goal

abbrev with_id : ℕ → Bool → IdList → IdList
with_id id mixed l = record { ids = l.ids ++ id ∷ []; free = l.free - 1; until = l.until; mixed = mixed }

pub returns-clause-listed : goal.returns-clause-listed
returns-clause-listed c = λ made row was is number.
    let hash_key = c.args.hash_key in
    let e = c.args.extent in
    let old = c.args.lists.now.entries in
    let new = c.push_at.new.lists.entries in
    let only = c.holds_only-only.result in
    let at : c.key_of-key.result ≡ key hash_key e row.peer = c.key_of-key.ensures ∙ ap (key hash_key e) (sym is) in
    listed-added hash_key e c.args.rows.now row made old new only
    (subst (λ (k : ℕ). KeepsOthers k old new) at c.push_at.ensures.others)
    (subst (λ (k : ℕ). list_at k new ≡ with_id row.id (not only) (list_at k old)) at
    (subst (λ (n : ℕ). list_at c.key_of-key.result new ≡ with_id n (not only) (list_at c.key_of-key.result old)) (sym number) c.push_at.ensures.here))
    (subst (λ (a : Address). 0 < (list_at (key hash_key e a) old).free) (sym is) c.requires.room)
    (λ fine. subst (λ (k : ℕ). AreOf e (face e row.peer) (rows_with hash_key e k c.args.rows.now)) at
    (subst (λ (a : Address). AreOf e (face e a) (rows_with hash_key e c.key_of-key.result c.args.rows.now)) (sym is)
    (c.holds_only-only.ensures hash_key made c.key_of-key.ensures was fine)))
    was
