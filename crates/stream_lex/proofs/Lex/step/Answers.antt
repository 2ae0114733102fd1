use Rattle.std.proofs.Common.{arith}
use Rattle.stream_lex.proofs.Standing.{stands-turn, stands-still}
use Rattle.stream_lex.proofs.Telling.{stands-told}
use Rattle.stream_lex.proofs.Lex.step.Goals as goal

pub returns-in-Some-clause-reads : goal.returns-in-Some-clause-reads
returns-in-Some-clause-reads c = λ bytes ts k.
    stands-still bytes ts _ c.args.self.now.state c.args.self.now.fault c.in-Some.fault c.args.byte c.in-Some.is c.refused.ensures.told k

pub returns-in-None-clause-reads : goal.returns-in-None-clause-reads
returns-in-None-clause-reads c = λ bytes ts k.
    stands-turn bytes ts c.args.self.now.state c.advance.result.0 c.args.self.now.fault c.args.byte c.advance.result.1 (omega (arith, c.ranges.byte))
    c.args.self.now.live c.in-None.is c.advance.ensures.turns k

pub returns-in-Some-clause-told : goal.returns-in-Some-clause-told
returns-in-Some-clause-told c = λ bytes ts k. stands-told _ _ _ _
    (stands-still bytes ts _ c.args.self.now.state c.args.self.now.fault c.in-Some.fault c.args.byte c.in-Some.is c.refused.ensures.told k)

pub returns-in-None-clause-told : goal.returns-in-None-clause-told
returns-in-None-clause-told c = λ bytes ts k. stands-told _ _ _ _
    (stands-turn bytes ts c.args.self.now.state c.advance.result.0 c.args.self.now.fault c.args.byte c.advance.result.1 (omega (arith, c.ranges.byte))
    c.args.self.now.live c.in-None.is c.advance.ensures.turns k)
