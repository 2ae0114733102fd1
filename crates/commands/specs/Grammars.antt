-- What clap is told of the commands.
use Rattle.std.specs.Prelude.{◌≡◌, ◌≢◌, ℕ, true, List, [], ◌∷◌, Option, Some, None, Result, Ok, Err, ⊤, codes}
use Rattle.clap.specs.Words.{App, Kinds, Rule, new_rule, with_rule}
use Rattle.serve_words.specs.Grammars.{bare}
use Rattle.clap.specs.declared.builder.action.ArgAction.TheVariants.{Set}
use Rattle.script_play.specs.declared.status.Status.{Status}
use Rattle.script_play.specs.declared.status.Status.TheVariants as status

-- a positional word that must be there
abbrev pub wanted : List ℕ → Rule
wanted id = record (new_rule id) { required = true; action = Some Set }

-- two such words
abbrev pub pair_grammar : App
pair_grammar = with_rule (with_rule (bare (codes "pair")) (wanted (codes "FIRST"))) (wanted (codes "SECOND"))

-- words were read without fault, or have a fault of one of these kinds; or there was no memory to read them
abbrev pub Parses : {M : Type 0} → Kinds → Result M Status → Type 0
Parses kinds (Ok m) = kinds ≡ []
Parses kinds (Err status.Usage) = kinds ≢ []
Parses kinds (Err status.NoMemory) = ⊤
Parses kinds (Err status.Done) = ⊥
Parses kinds (Err (status.Accounts line)) = ⊥
Parses kinds (Err (status.Script line)) = ⊥
Parses kinds (Err status.ReadFault) = ⊥
Parses kinds (Err status.WriteFault) = ⊥
Parses kinds (Err status.ListenFault) = ⊥

-- two words
abbrev pub pair_in : List (List ℕ) → Option (List ℕ × List ℕ)
pair_in (first ∷ second ∷ []) = Some (first, second)
pair_in _ = None
