use Rattle.std.proofs.Common.{◌++◌, ◌∷◌, [], Some, sym, subst}
use Rattle.session_table.specs.Indexes.{AreChained, AreRelinked, Slots, leading_to}
use Rattle.session_table.proofs.LinkLemmas.{chained_more, chained_new}
use Rattle.session_table.proofs.PlaceLemmas.{relinked_none, relinked_set}
use Rattle.session_table.proofs.chains.join.Goals as goal

pub returns-in-Some-clause-chained : goal.returns-in-Some-clause-chained
returns-in-Some-clause-chained c = λ o own last.
    let had = c.requires.chained in
    let link = c.in-Some.ensures in
    let key = c.args.heads.now.key in
    let n = c.args.number in
    subst (λ (es : Slots). AreChained key (es ++ (n, o) ∷ []) c.args.heads.now.firsts.entries n) (sym (c.lead.ensures.entries link.0 link.1 link.2))
    (chained_more key c.args.hash n had.0 o c.args.slots.now.entries c.args.heads.now.firsts.entries c.in-Some.place link.0 link.1 had.1 had.2
    own last link.2 link.3 link.4)

pub returns-in-Some-clause-same : goal.returns-in-Some-clause-same
returns-in-Some-clause-same c =
    let link = c.in-Some.ensures in
    let es = c.args.slots.now.entries in
    subst (AreRelinked es) (sym (c.lead.ensures.entries link.0 link.1 link.2))
    (relinked_set c.in-Some.place link.0 link.1 (leading_to (Some c.args.number) link.1) es (λ i. link.1.session) link.2)

pub returns-in-Ok-clause-chained : goal.returns-in-Ok-clause-chained
returns-in-Ok-clause-chained c = λ o own last.
    let had = c.requires.chained in
    let heads = c.args.heads.now in
    chained_new heads.key c.args.hash c.args.number had.0 o c.args.slots.now.entries heads.firsts.entries c.insert.new.self.entries had.1 had.2
    own last c.in-None.ensures (λ q. c.in-Ok.ensures.updates.0 q)

pub returns-in-Ok-clause-same : goal.returns-in-Ok-clause-same
returns-in-Ok-clause-same c = relinked_none c.args.slots.now.entries
