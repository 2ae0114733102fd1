use Rattle.std.proofs.Common.{arith, ℕ, length, vec_len, sym, subst, ◌≡◌, ◌∙◌, ◌<◌, IfSome, rules, refl}
use Rattle.contact_table.specs.Folders.{IsNamed, names_in}
use Rattle.contact_table.proofs.EntryLemmas.{edited_by, found_by}
use Rattle.contact_table.proofs.NameLemmas.{popped, popped_length, popped_some}
use Rattle.contact_table.proofs.folders.take_name.Goals as goal

pub returns-in-Some-clause-name : goal.returns-in-Some-clause-name
returns-in-Some-clause-name c =
    let user = c.args.user.now in
    let f = c.in-Some.folder.now in
    let found = found_by c.bytes.result.now user c.args.folders.now.entries f c.bytes.ensures.bytes c.in-Some.ensures.value in
    let named = subst (λ o. IfSome o (λ f. IsNamed user f.names.items)) found c.requires.named in
    (popped user f.names.items c.pop.new.self.items c.pop.result c.pop.ensures.items named).1

pub returns-in-Some-clause-wanted : goal.returns-in-Some-clause-wanted
returns-in-Some-clause-wanted c =
    let user = c.args.user.now in
    let f = c.in-Some.folder.now in
    let found = found_by c.bytes.result.now user c.args.folders.now.entries f c.bytes.ensures.bytes c.in-Some.ensures.value in
    let some = subst (λ o. 0 < names_in o) found c.requires.room in
    let count : vec_len f.names ≡ length f.names.items = search rules in
    popped_some c.pop.result (vec_len f.names) (subst (λ (n : ℕ). 0 < n) (sym count) some) c.pop.ensures.variant ∙ sym c.if-not-wanted.false

pub returns-in-Some-clause-edits : goal.returns-in-Some-clause-edits
returns-in-Some-clause-edits c =
    let user = c.args.user.now in
    let f = c.in-Some.folder.now in
    let g = record f { names = c.pop.new.self } in
    edited_by c.bytes.result.now user (λ s. s) 0 1 c.args.folders.now.entries (c.get_mut.follows.lender g).entries f g
    c.bytes.ensures.bytes c.in-Some.ensures.value (c.get_mut.follows.holds g).0
    refl (omega arith) (popped_length f.names.items c.pop.new.self.items c.pop.result c.pop.ensures.items) refl
    (λ named. (popped user f.names.items c.pop.new.self.items c.pop.result c.pop.ensures.items named).0)

pub returns-in-None-clause-wanted : goal.returns-in-None-clause-wanted
returns-in-None-clause-wanted c = absurd (search rules)
