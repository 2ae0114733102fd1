use Rattle.std.proofs.Common.{rules, ap, is_some, sym, true≢false, ◌∙◌}
use Rattle.std.specs.Option.{option_map}
use Rattle.clap.specs.Words.{found_of}
use Rattle.clap.proofs.WalkLemmas.{first_value-rows}
use Rattle.commands.proofs.words.value.Goals as goal

pub unreachable-requires : goal.unreachable-requires
unreachable-requires c =
    true≢false
    (sym c.requires ∙ ap is_some (sym (first_value-rows (found_of c.args.matches.now) c.args.id.now)) ∙ ap is_some (sym c.get_str.ensures)
    ∙ ap (λ o. is_some (option_map (λ s. s.now) o)) c.in-None.is)

pub returns : goal.returns
returns c = sym (first_value-rows (found_of c.args.matches.now) c.args.id.now) ∙ search rules
