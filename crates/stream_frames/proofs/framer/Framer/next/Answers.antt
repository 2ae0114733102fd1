use Rattle.std.proofs.Common.{◌≡◌, refl, sym, ap, ◌∙◌, false, rules}
use Rattle.std.specs.Prelude.{Option, None, Some}
use Rattle.stream_grammar.specs.declared.FrameFault.{FrameFault}
use Rattle.stream_grammar.specs.declared.item.Item.TheVariants as item
use Rattle.stream_grammar.specs.machine.Reading.{stopped, waiting, handed, is_done}
use Rattle.stream_frames.specs.Fed.{Fed, reading_of}
use Rattle.stream_frames.specs.Works.{work_of}
use Rattle.stream_frames.proofs.StandLemmas.{asked_stands}
use Rattle.stream_frames.proofs.WaitLemmas.{none_waits, none_handed}
use Rattle.stream_frames.proofs.framer.Framer.next.Goals as goal

pub returns-then-not-is_done-clause-grammar : goal.returns-then-not-is_done-clause-grammar
returns-then-not-is_done-clause-grammar c =
    let none : is_done c.args.self.now.reading ≡ false = search rules in
    asked_stands c.args.self.now c.args.self.now None refl (none_waits c.args.self.now.reading none)
    (ap (λ (x : Fed). x.reading) (none_handed c.args.self.now none))

pub returns-in-Some-clause-grammar : goal.returns-in-Some-clause-grammar
returns-in-Some-clause-grammar c =
    let is : stopped c.in-Some.fault c.self.inside.offset ≡ c.args.self.now.reading =
    ap (λ (o : Option FrameFault). reading_of o c.self.inside.tracker.frame (work_of c.self.inside.work) c.self.inside.extent c.self.inside.offset)
    (sym c.in-Some.is) ∙ ap (λ (x : Fed). x.reading) c.self.view_is in
    asked_stands c.args.self.now c.args.self.now (Some (item.Broken c.in-Some.fault c.self.inside.offset)) refl (ap waiting is) (sym is ∙ ap handed is)

pub returns-in-None-clause-grammar : goal.returns-in-None-clause-grammar
returns-in-None-clause-grammar c = asked_stands c.args.self.now _ c.take_item-item.result (search rules) (search rules) (search rules)
