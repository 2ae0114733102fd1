use Rattle.std.proofs.Common.{◌≡◌, true, refl, sym, subst}
use Rattle.stream_lex.specs.declared.stages.State.{State}
use Rattle.stream_lex.specs.machine.Live.{is_live}
use Rattle.stream_frames.proofs.tracker.fault_after_end.Goals as goal

pub at-lex-requires : goal.at-lex-requires
unfolding is_live
at-lex-requires c = subst (λ (s : State). is_live s ≡ true) (sym c.between.ensures) refl
