use Rattle.std.proofs.Common.{◌≡◌, ◌≤◌, ◌<◌, ◌+◌, length, map, drop, sum}
use Rattle.stanza_model.specs.RosterLimits.{counted, most_text}
use Rattle.subscription_pairs.proofs.limit.fits.Given as goal

abbrev pub invariant-loop-contact : goal.invariant-loop-contact
invariant-loop-contact l = record {
  few : length l.contacts < 1000;
  left : l.left ≤ most_text;
  counts : sum (map counted l.contacts) + l.left ≡ most_text + sum (map counted (drop l.contact-index l.contacts));
}
