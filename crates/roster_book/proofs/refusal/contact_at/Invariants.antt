use Rattle.std.proofs.Common.{◌≡◌, drop}
use Rattle.roster_book.specs.Refusals.{contact_at}
use Rattle.roster_book.proofs.refusal.contact_at.Given as goal

abbrev pub invariant-loop-contact : goal.invariant-loop-contact
invariant-loop-contact l = contact_at l.address (drop l.contact-index l.contacts) ≡ contact_at l.address l.contacts
