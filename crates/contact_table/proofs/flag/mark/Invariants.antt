use Rattle.std.proofs.Common.{◌≡◌, ◌++◌, map, take, drop}
use Rattle.contact_table.specs.Marks.{marked}
use Rattle.contact_table.proofs.flag.mark.Given as goal

abbrev pub invariant-loop-contact : goal.invariant-loop-contact
invariant-loop-contact l = record {
  made : take l.contact-index l.contacts ++ map (marked l.domain l.other l.flag l.yes) (drop l.contact-index l.contacts)
      ≡ map (marked l.domain l.other l.flag l.yes) l.fn.contacts;
}
