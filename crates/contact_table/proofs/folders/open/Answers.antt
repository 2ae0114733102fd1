use Rattle.std.proofs.Common.{◌≡◌, ◌++◌, ◌∷◌, [], ℕ, List, None, is_some, rules, sym, ap, ◌∙◌}
use Rattle.indexmap.proofs.CallerLemmas.{insert_entry-new}
use Rattle.contact_table.specs.Folders.{folder_at}
use Rattle.contact_table.proofs.EntryLemmas.{none_there, opened_keeps, opened_room, opened_there}
use Rattle.contact_table.proofs.folders.open.Goals as goal

absent : (c : goal.Joined-branch-4) → folder_at c.args.user.now c.args.folders.now.entries ≡ None
absent c =
    let es = c.args.folders.now.entries in
    none_there (folder_at c.args.user.now es)
    (ap (λ (m : List ℕ). is_some (folder_at m es)) (sym c.bytes.ensures.bytes) ∙ sym c.contains_key.ensures ∙ c.if-contains_key.false)

word : (c : goal.Joined-branch-4) → c.in_ok-to_vec.field-0.items ≡ c.args.user.now
word c = search rules

made : (c : goal.Joined-branch-4) → c.insert.new.self.entries ≡ c.args.folders.now.entries ++ (c.in_ok-to_vec.field-0, c.new-folder.result) ∷ []
made c =
    c.in_ok-insert.ensures.entries
    ∙ insert_entry-new _ c.args.folders.now c.in_ok-to_vec.field-0 c.new-folder.result
    (ap (λ (m : List ℕ). folder_at m c.args.folders.now.entries) (word c) ∙ absent c)

pub returns-clause-there : goal.returns-clause-there
returns-clause-there c =
    opened_there c.args.domain.now c.args.user.now c.args.folders.now.entries c.insert.new.self.entries c.in_ok-to_vec.field-0 c.new-folder.result
    (word c) (absent c) (made c)

pub returns-clause-kept : goal.returns-clause-kept
returns-clause-kept c k before =
    opened_keeps c.args.domain.now c.args.user.now c.args.folders.now.entries c.insert.new.self.entries c.in_ok-to_vec.field-0 c.new-folder.result
    (word c) (absent c) (made c) k c.new-folder.ensures.sheet (c.new-folder.ensures.owner ∙ c.in_ok-owner.ensures) c.new-folder.ensures.names before

pub returns-clause-room : goal.returns-clause-room
returns-clause-room c =
    opened_room c.args.domain.now c.args.user.now c.args.folders.now.entries c.insert.new.self.entries c.in_ok-to_vec.field-0 c.new-folder.result
    (word c) (absent c) (made c)
