use Rattle.std.proofs.Common.{map, rules}
use Rattle.clap.specs.Words.{found_of, rows_of}
use Rattle.clap.specs.declared.parser.matches.ArgMatches.{ArgMatches}
use Rattle.commands.proofs.TaskLemmas.{first_there, pair_read, pair_refused, second_there}
use Rattle.commands.proofs.words.pair_values.Goals as goal

pub returns-in-Err : goal.returns-in-Err
returns-in-Err c = search (rules, pair_refused ArgMatches (map (λ word. word.now) c.args.words.now) c.in-Err.status c.requires (search rules))

pub value-first-requires : goal.value-first-requires
value-first-requires c = search
    (rules, first_there (map (λ word. word.now) c.args.words.now) (rows_of (found_of c.in-Ok.matches)) c.requires (search rules) (search rules))

pub value-second-requires : goal.value-second-requires
value-second-requires c = search
    (rules, second_there (map (λ word. word.now) c.args.words.now) (rows_of (found_of c.in-Ok.matches)) c.requires (search rules) (search rules))

pub returns : goal.returns
returns c =
    pair_read (map (λ word. word.now) c.args.words.now) (rows_of (found_of c.in-Ok.matches)) c.value-first.result.now c.value-second.result.now c.requires
    (search rules) (search rules)
    (search rules) (search rules)
