use Rattle.script_play.proofs.Faults.{never}
use Rattle.serve_run.proofs.Endings.{ends_served}
use Rattle.serve_run.proofs.laws.valid_lists_are_served.Goals as goal

pub returns : goal.returns
returns g c = record {
  ends =
      ends_served c.args.serving.now.sessions c.args.source.now c.serve.new.source c.requires.valid.0 c.serve.result c.requires.short c.requires.valid.1
      (λ n is. let a = c.serve.ensures.accounts n is in (a.0, a.1, a.2))
      (λ is. never (c.serve.ensures.read is)) (λ is. never (c.serve.ensures.written is)) (λ is. never (c.serve.ensures.listened is)) c.serve.ensures.usage.0
      c.serve.ensures.usage.1;
}
