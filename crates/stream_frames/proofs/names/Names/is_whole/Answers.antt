use Rattle.std.proofs.Common.{ℕ, List, ap, sym, ◌∙◌, nat_le}
use Rattle.std.specs.declared.option.Option.{Option}
use Rattle.stream_frames.specs.declared.names.OpenName.{OpenName}
use Rattle.stream_grammar.specs.grammar.Trees.{RawName}
use Rattle.stream_frames.specs.Stacks.{stacked, left_of, is_all}
use Rattle.stream_frames.proofs.StackLemmas.{whole_at}
use Rattle.stream_frames.proofs.names.Names.is_whole.Goals as goal

pub returns-in-Some : goal.returns-in-Some
returns-in-Some c =
    let ns : List OpenName = c.self.inside.others.items in
    ap (λ (n : ℕ). nat_le n c.args.at) (c.len.ensures ∙ c.in-Some.name.rest.ok.0)
    ∙ (whole_at c.in-Some.name.rest.items c.args.at
    ∙ ap (λ (st : List RawName). is_all (left_of st c.args.at)) (ap (λ (o : Option OpenName). stacked o ns) (sym c.in-Some.is) ∙ c.self.view_is))
