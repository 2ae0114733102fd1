use Rattle.std.proofs.Common.{Bool, subst}
use Rattle.contact_table.specs.Folders.{Edits}
use Rattle.contact_table.specs.Marks.{seeing, seen_by}
use Rattle.contact_table.proofs.KeepLemmas.{keeps_same, keeps_sees}
use Rattle.contact_table.proofs.changes.set_sees.Goals as goal

pub returns-clause-kept : goal.returns-clause-kept
returns-clause-kept c k before =
    let a = c.args.a.now in
    let b = c.args.b.now in
    let domain = c.args.domain.now in
    let one = c.take_name-name_a.new.folders.entries in
    let two = c.take_name-name_b.new.folders.entries in
    let three = c.see.new.folders.entries in
    let after_one = keeps_same domain a k 0 1 c.args.folders.now.entries one before c.take_name-name_a.ensures.edits in
    let after_two = keeps_same domain b k 0 1 one two after_one c.take_name-name_b.ensures.edits in
    keeps_sees domain a b k c.args.yes two three c.be_seen.new.folders.entries after_two
    (subst (λ (on : Bool). Edits a (seeing domain b on) 1 0 two three) c.take_name-name_b.ensures.wanted c.see.ensures)
    (subst (λ (on : Bool). Edits b (seen_by domain a on) 1 0 three c.be_seen.new.folders.entries) c.take_name-name_a.ensures.wanted c.be_seen.ensures)
