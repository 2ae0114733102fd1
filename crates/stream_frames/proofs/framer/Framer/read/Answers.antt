use Rattle.std.proofs.Common.{◌≤◌, drop, length, subst, rules}
use Rattle.std.proofs.lemmas.List.{take_rest}
use Rattle.stream_grammar.proofs.FeedLemmas.{after_one, rest_going}
use Rattle.stream_frames.proofs.RunLemmas.{run_here, run_after, run_taken}
use Rattle.stream_frames.proofs.framer.Framer.read.Goals as goal

pub returns-then-is_err-clause-kept : goal.returns-then-is_err-clause-kept
returns-then-is_err-clause-kept c =
    let run = run_here c.args.self.now.limits c.loop-at.self.limits c.loop-at.self.reading c.skip_run-at.new.self.reading c.args.piece.now c.loop-at.at
    c.skip_run-at.result c.loop-at.invariant.limits c.skip_run-at.ensures.run in
    let after = run_after c.args.self.now.limits c.args.self.now.reading c.loop-at.self.reading c.skip_run-at.new.self.reading c.args.piece.now c.loop-at.at
    c.skip_run-at.result c.loop-at.invariant.read run in
    search (rules, after)

pub returns-then-is_done-clause-read : goal.returns-then-is_done-clause-read
returns-then-is_done-clause-read c =
    let run = run_here c.args.self.now.limits c.loop-at.self.limits c.loop-at.self.reading c.skip_run-at.new.self.reading c.args.piece.now c.loop-at.at
    c.skip_run-at.result c.loop-at.invariant.limits c.skip_run-at.ensures.run in
    let after = run_after c.args.self.now.limits c.args.self.now.reading c.loop-at.self.reading c.skip_run-at.new.self.reading c.args.piece.now c.loop-at.at
    c.skip_run-at.result c.loop-at.invariant.read run in
    search (rules, after, after_one)

pub loop-at-preserved : goal.loop-at-preserved
loop-at-preserved c =
    let run = run_here c.args.self.now.limits c.loop-at.self.limits c.loop-at.self.reading c.skip_run-at.new.self.reading c.args.piece.now c.loop-at.at
    c.skip_run-at.result c.loop-at.invariant.limits c.skip_run-at.ensures.run in
    let after = run_after c.args.self.now.limits c.args.self.now.reading c.loop-at.self.reading c.skip_run-at.new.self.reading c.args.piece.now c.loop-at.at
    c.skip_run-at.result c.loop-at.invariant.read run in
    let fits : c.skip_run-at.result ≤ length (drop c.loop-at.at c.args.piece.now) =
    subst (λ (xs : _). c.skip_run-at.result ≤ length xs) (take_rest c.args.piece.now c.loop-at.at) c.skip_run-at.ensures.fits in
    let left = run_taken c.args.self.now.limits c.args.self.now.reading c.loop-at.self.reading c.skip_run-at.new.self.reading c.args.piece.now c.loop-at.at
    c.skip_run-at.result c.loop-at.invariant.rest run fits in
    let going = run.going in search (rules, after, left, going)

pub loop-at-preserved-else-is_done : goal.loop-at-preserved-else-is_done
loop-at-preserved-else-is_done c =
    let run = run_here c.args.self.now.limits c.loop-at.self.limits c.loop-at.self.reading c.skip_run-at.new.self.reading c.args.piece.now c.loop-at.at
    c.skip_run-at.result c.loop-at.invariant.limits c.skip_run-at.ensures.run in
    let after = run_after c.args.self.now.limits c.args.self.now.reading c.loop-at.self.reading c.skip_run-at.new.self.reading c.args.piece.now c.loop-at.at
    c.skip_run-at.result c.loop-at.invariant.read run in
    let fits : c.skip_run-at.result ≤ length (drop c.loop-at.at c.args.piece.now) =
    subst (λ (xs : _). c.skip_run-at.result ≤ length xs) (take_rest c.args.piece.now c.loop-at.at) c.skip_run-at.ensures.fits in
    let left = run_taken c.args.self.now.limits c.args.self.now.reading c.loop-at.self.reading c.skip_run-at.new.self.reading c.args.piece.now c.loop-at.at
    c.skip_run-at.result c.loop-at.invariant.rest run fits in
    search (rules, after, left, after_one, rest_going)
