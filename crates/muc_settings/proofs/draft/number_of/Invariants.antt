use Rattle.std.proofs.Common.{◌≡◌, ◌≤◌, drop}
use Rattle.muc_settings.specs.Drafts.{number_from, number_of}
use Rattle.muc_settings.proofs.draft.number_of.Given as goal

abbrev pub invariant-loop-digit : goal.invariant-loop-digit
invariant-loop-digit l = record {
  small : l.n ≤ 1000;
  same : number_from l.n (drop l.digit-index l.digits) ≡ number_of l.digits;
}
