use Rattle.std.proofs.Common.{ℕ, ◌+◌, List, length, ap, sym, ◌∙◌}
use Rattle.std.specs.declared.option.Option.{Option}
use Rattle.stream_frames.specs.declared.names.OpenName.{OpenName}
use Rattle.stream_grammar.specs.grammar.Trees.{RawName}
use Rattle.stream_frames.specs.Stacks.{stacked}
use Rattle.stream_frames.proofs.StackLemmas.{counted}
use Rattle.stream_frames.proofs.names.Names.count.Goals as goal

pub returns-in-Some : goal.returns-in-Some
returns-in-Some c =
    let ns : List OpenName = c.self.inside.others.items in
    ap (λ (n : ℕ). n + 1) (c.len.ensures ∙ c.self.inside.others.ok.0)
    ∙ (counted c.in-Some.field-0 ns ∙ ap (length {A = RawName}) (ap (λ (o : Option OpenName). stacked o ns) (sym c.in-Some.is) ∙ c.self.view_is))
