use Rattle.std.proofs.Common.{ap, inr, refl, ◌∙◌}
use Rattle.outside.specs.Plans.{raised}
use Rattle.conn_serve.proofs.Growing.{grew_both, finished_after}
use Rattle.conn_serve.proofs.Sending.{begins, fails, none_left, sends_none, sends_on}
use Rattle.conn_serve.proofs.flush.flush.Goals as goal

pub loop-link-init : goal.loop-link-init
loop-link-init g c = record {
  clock = refl;
  counts = c.ring_stirred.ensures.laters;
  said = λ o v turns drawn dice owed.
      begins o v _ _ _ turns _ drawn _ _ _ _ dice owed c.ring_stirred.ensures.tape c.ring_stirred.ensures.faults c.ring_stirred.ensures.ends;
}

pub loop-link-preserved : goal.loop-link-preserved
loop-link-preserved g c = record {
  clock = c.loop-link.invariant.clock;
  counts = c.in-Taken.ensures.laters ∙ c.loop-link.invariant.counts;
  said = λ o v turns drawn dice owed.
      grew_both (c.loop-link.invariant.said o v turns drawn dice owed)
      (sends_on o v c.loop-link.owed c.rest.result.now c.skip.new.self c.in-Taken.n _ _ turns _ drawn _ _ _ _ dice c.rest.ensures
      c.in-Taken.ensures.fits.0 c.in-Taken.ensures.fits.1 c.skip.ensures c.in-Taken.ensures.tape c.in-Taken.ensures.kept c.in-Taken.ensures.ends_kept);
}

pub returns-in-Later-clause-flushed : goal.returns-in-Later-clause-flushed
returns-in-Later-clause-flushed g c = λ o v turns drawn dice owed. (
  grew_both (c.loop-link.invariant.said o v turns drawn dice owed)
      (sends_none o _ _ _ turns _ drawn _ _ _ _ dice c.in-Later.ensures.tape c.in-Later.ensures.kept c.in-Later.ensures.ends_kept),
  c.loop-link-test.ensures.some refl,
)

pub returns-in-Later-clause-counts : goal.returns-in-Later-clause-counts
returns-in-Later-clause-counts g c = c.in-Later.ensures.laters ∙ ap raised c.loop-link.invariant.counts

pub returns-in-Failed-clause-flushed : goal.returns-in-Failed-clause-flushed
returns-in-Failed-clause-flushed g c = λ o v turns drawn dice owed.
    finished_after (c.loop-link.invariant.said o v turns drawn dice owed)
    (fails o _ c.moment.result _ _ turns _ _ drawn _ _ _ _ dice (inr (c.loop-link-test.ensures.some refl)) c.in-Failed.ensures.tape
    c.moment.ensures.told c.in-Failed.ensures.kept c.in-Failed.ensures.ends_kept (c.in-Failed.ensures.cause refl))

pub returns-in-Failed-clause-unread : goal.returns-in-Failed-clause-unread
returns-in-Failed-clause-unread g c =
    inr (refl, (c.moment.result, rw c.loop-link.invariant.clock at c.moment.ensures.told))

pub returns-clause-flushed : goal.returns-clause-flushed
returns-clause-flushed g c = λ o v turns drawn dice owed.
    none_left o _ _ v v _ _ (c.loop-link-test.ensures.none refl) c.clear.ensures (c.loop-link.invariant.said o v turns drawn dice owed)
