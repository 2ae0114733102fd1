use Rattle.std.proofs.Common.{ℕ, List, take, get_or, take_all, sym, subst, arith}
use Rattle.std.proofs.lemmas.List.{take_more}
use Rattle.std.proofs.Math.Facts.{Fits-lt-pow}
use Rattle.scram_core.proofs.Leading.{Leads, leads-next, place-stopped, place-ended, text-ended}
use Rattle.scram_core.proofs.place.place_of.Goals as goal

pub returns-in-None : goal.returns-in-None
returns-in-None c =
    place-stopped c.args.message c.args.bytes.now c.loop-i.i c.loop-i.at c.loop-i.invariant (omega arith) (Fits-lt-pow (c.type_inv.bytes c.loop-i.i))
    (sym c.in-None.ensures)

pub loop-i-preserved : goal.loop-i-preserved
loop-i-preserved c =
    subst (λ (bs : List ℕ). Leads c.args.message bs c.in-Some.to) (sym (take_more c.args.bytes.now c.loop-i.i 0 (omega arith)))
    (leads-next c.args.message (take c.loop-i.i c.args.bytes.now) c.loop-i.at c.in-Some.to (get_or c.args.bytes.now c.loop-i.i 0)
    c.loop-i.invariant (Fits-lt-pow (c.type_inv.bytes c.loop-i.i)) (sym c.in-Some.ensures))

pub returns-then-may_end : goal.returns-then-may_end
returns-then-may_end c =
    text-ended c.args.message c.args.bytes.now c.loop-i.at
    (subst (λ (bs : List ℕ). Leads c.args.message bs c.loop-i.at) (take_all c.loop-i.i c.args.bytes.now (omega arith)) c.loop-i.invariant)
    (sym c.if-may_end.ensures)

pub returns-else-may_end : goal.returns-else-may_end
returns-else-may_end c =
    place-ended c.args.message c.args.bytes.now c.loop-i.at
    (subst (λ (bs : List ℕ). Leads c.args.message bs c.loop-i.at) (take_all c.loop-i.i c.args.bytes.now (omega arith)) c.loop-i.invariant)
    (sym c.if-may_end.ensures)
