use Rattle.std.proofs.Common.{◌≡◌, rules, refl, ap, sym}
use Rattle.std.specs.Prelude.{Some, List, ℕ, Result, Ok, Err}
use Rattle.house_model.specs.declared.event.Event.{Event}
use Rattle.house_model.specs.declared.reply.Reply.{Reply}
use Rattle.house_model.specs.Histories.{turn_of}
use Rattle.replay_script.specs.declared.step.Step.TheVariants as step
use Rattle.replay_script.specs.Deeds.{Turned}
use Rattle.script_play.proofs.replay.Player.take_event.Goals as goal

event-of : {E : Type 0} (e : Event) (r : Result Reply E) (text : List ℕ) → (turn_of e r text).event ≡ e
event-of e (Ok reply) text = refl
event-of e (Err f) text = refl

pub returns : goal.returns
returns c =
    let text = c.submit.ensures.history.0 in
    record {
      deed = Turned (turn_of c.args.event.now c.submit.result text);
      spelt = ap (λ (e : Event). Some (step.Event e)) (sym (event-of c.args.event.now c.submit.result text));
      done = λ o h s. search rules;
      stands = c.submit.ensures.history.1.1;
      framed = refl;
      printed = search rules;
    }
