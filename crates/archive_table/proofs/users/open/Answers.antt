use Rattle.std.proofs.Common.{◌≡◌, ◌++◌, ◌∷◌, [], ℕ, List, Some, None, is_some, bytes_eq, rules, sym, ap, ◌∙◌}
use Rattle.std.specs.Map.{lookup}
use Rattle.indexmap.proofs.CallerLemmas.{insert_entry-new}
use Rattle.archive_table.specs.Tables.{rows_of}
use Rattle.archive_table.proofs.EntryLemmas.{none-there}
use Rattle.archive_table.proofs.UserLemmas.{user-rows-opened, user-spare-opened, user-texts-opened}
use Rattle.archive_table.proofs.users.open.Goals as goal

word : (c : goal.Joined-branch-3) → c.in_ok-to_vec.field-0.items ≡ c.args.user.now
word c = search rules

absent : (c : goal.Joined-branch-3) → lookup (λ k. bytes_eq c.args.user.now k.items) c.args.users.now.entries ≡ None
absent c =
    let es = c.args.users.now.entries in
    none-there (lookup (λ k. bytes_eq c.args.user.now k.items) es)
    (ap (λ (m : List ℕ). is_some (lookup (λ k. bytes_eq m k.items) es)) (sym c.bytes.ensures.bytes)
    ∙ sym c.contains_key.ensures ∙ c.if-contains_key.false)

made : (c : goal.Joined-branch-3) → c.insert.new.self.entries ≡ c.args.users.now.entries ++ (c.in_ok-to_vec.field-0, c.new-archive.result) ∷ []
made c =
    c.in_ok-insert.ensures.entries
    ∙ insert_entry-new _ c.args.users.now c.in_ok-to_vec.field-0 c.new-archive.result
    (ap (λ (m : List ℕ). lookup (λ k. bytes_eq m k.items) c.args.users.now.entries) (word c) ∙ absent c)

pub returns-clause-rows : goal.returns-clause-rows
returns-clause-rows c u =
    user-rows-opened c.args.users.now.entries c.insert.new.self.entries c.in_ok-to_vec.field-0 c.new-archive.result (made c)
    (ap (λ a. rows_of (Some a)) c.new-archive.ensures) u

pub returns-clause-spare : goal.returns-clause-spare
returns-clause-spare c u p =
    user-spare-opened c.args.users.now.entries c.insert.new.self.entries c.in_ok-to_vec.field-0 c.new-archive.result (made c) u p

pub returns-clause-texts : goal.returns-clause-texts
returns-clause-texts c =
    user-texts-opened c.args.users.now.entries c.insert.new.self.entries c.in_ok-to_vec.field-0 c.new-archive.result (made c)
    (ap (λ a. rows_of (Some a)) c.new-archive.ensures)
