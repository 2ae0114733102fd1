use Rattle.std.proofs.Common.{◌≡◌}
use Rattle.stream_frames.specs.Moves.{tokens_move}
use Rattle.stream_lex.specs.machine.Leading.{tokens_of}
use Rattle.stream_frames.specs.Tracking.{judged}
use Rattle.std.specs.declared.option.Option.TheVariants.{Some}
use Rattle.stream_frames.proofs.TrackLemmas.{judged-open, judged-broken, if-open, if-broken}
use Rattle.stream_frames.proofs.tracker.read.Goals as goal

pub returns-clause-ok : goal.returns-clause-ok
returns-clause-ok c =
    if-open c.judge.result _ (tokens_move c.args.rules c.args.place c.args.open.now (tokens_of c.args.turned.now.lexed)) _ c.judge.ensures.made
    c.judge.ensures.ok
    (λ j s b n t. judged-open c.args.rules c.args.place c.args.open.now s c.args.turned.now.state b c.args.turned.now.lexed t j n)

pub returns-clause-err : goal.returns-clause-err
returns-clause-err c =
    if-broken c.judge.result (λ f. judged c.args.rules c.args.place c.args.open.now c.args.turned.now.state c.args.turned.now.lexed.fault
    (tokens_of c.args.turned.now.lexed) ≡ Some f) _ c.judge.ensures.err
    (λ f j s b n t. judged-broken c.args.rules c.args.place c.args.open.now s c.args.turned.now.state b c.args.turned.now.lexed f t j n)
