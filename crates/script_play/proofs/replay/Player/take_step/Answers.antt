use Rattle.std.proofs.Common.{rules, ap}
use Rattle.std.specs.Prelude.{Some}
use Rattle.replay_script.specs.declared.step.Step.{Step}
use Rattle.replay_script.specs.Deeds.{Fed, Renewed}
use Rattle.script_play.proofs.StreamLemmas.{no_more}
use Rattle.script_play.proofs.Valid.{there}
use Rattle.script_play.proofs.replay.Player.take_step.Goals as goal

pub returns-in-Feed : goal.returns-in-Feed
returns-in-Feed c = record {
  deed = Fed c.in-Feed.w c.in-Feed.bytes;
  spelt = ap (λ (s : Step). Some s) c.in-Feed.is;
  done =
      λ o h s. there o h _ _ s (search rules);
  stands = λ o h s. no_more o h _ s;
  framed = search rules;
  printed = search rules;
}

pub returns-in-Fresh : goal.returns-in-Fresh
returns-in-Fresh c = record {
  deed = Renewed c.in-Fresh.w;
  spelt = ap (λ (s : Step). Some s) c.in-Fresh.is;
  done = λ o h s. there o h _ _ s (search rules);
  stands =
      λ o h s. no_more o h _ s;
  framed = search rules;
  printed = search rules;
}
