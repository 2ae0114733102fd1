-- What clap is told of `serve`.
use Rattle.std.specs.Prelude.{ℕ, true, List, Option, Some, codes}
use Rattle.serve_words.specs.declared.words.Texts.{Texts}
use Rattle.serve_words.specs.Options.{Said, said_with}
use Rattle.clap.specs.Words.{App, Rule, first_of, found_of, new_app, new_rule, rows_of, with_rule}
use Rattle.clap.specs.declared.parser.matches.ArgMatches.{ArgMatches}
use Rattle.clap.specs.declared.builder.action.ArgAction.TheVariants.{Set}

-- an option with one value
abbrev pub option : List ℕ → Rule
option name = record (new_rule name) { long = Some name; action = Some Set }

-- a command whose words come without its name, and that has neither help nor a version
abbrev pub bare : List ℕ → App
bare name = let app = new_app name in record app { top = record app.top { no_binary_name = true; disable_help_flag = true; disable_version_flag = true } }

-- where the server stands, and how many workers it has
abbrev pub first_grammar : App
first_grammar = with_rule (with_rule (with_rule (bare (codes "serve")) (option (codes "domain"))) (option (codes "port"))) (option (codes "workers"))

-- and how many connections and sessions there are, and whether anything is noted of them
abbrev pub grammar : App
grammar =
    with_rule (with_rule (with_rule (with_rule first_grammar (option (codes "links"))) (option (codes "connections"))) (option (codes "quiet")))
    (option (codes "sessions"))

-- the value that clap read of an option
abbrev pub value_in : ArgMatches → List ℕ → Option (List ℕ)
value_in matches name = first_of name (rows_of (found_of matches))

-- the values that it read of all
abbrev pub said_by : ArgMatches → Option Said
said_by m =
    said_with (value_in m (codes "domain")) (value_in m (codes "port")) (value_in m (codes "workers")) (value_in m (codes "links"))
    (value_in m (codes "connections")) (value_in m (codes "quiet")) (value_in m (codes "sessions"))

-- the texts that stand for the options
abbrev pub said_of : Texts → Said
said_of t = record {
  domain = t.domain.now;
  port = t.port.now;
  workers = t.workers.now;
  links = t.links.now;
  connections = t.connections.now;
  quiet = t.quiet.now;
  sessions = t.sessions.now;
}
