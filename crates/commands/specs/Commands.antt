-- The words of a command line, and what they ask for.
use Rattle.std.specs.Prelude.{◌≡◌, ◌<◌, ◌≤◌, ℕ, ◌-◌, ◌*◌, ◌^◌, ⊤, ◌&&◌, List, [], ◌∷◌, Option, Some, None, Result, Ok, Err, bytes_eq, codes, if◌then◌else◌}
use Rattle.std.specs.Result.{result_ok}
use Rattle.jid_core.specs.Preparation.{local_of}
use Rattle.account_book.specs.Fields.{on, salt_in}
use Rattle.serve_run.specs.declared.serving.Serving.{Serving}
use Rattle.serve_words.specs.Options.{IsRefusal, is_value, number, wanted}
use Rattle.commands.specs.declared.words.Command.{Command}
use Rattle.commands.specs.declared.words.Command.TheVariants as command
use Rattle.script_play.specs.declared.status.Status.{Status}

-- to play a script, to make the account line of a name with a salt, to serve, or to run a drill of n rounds by a key
pub data Task : Type 0 where
  Play : Task
  Make : (name salt : List ℕ) → Task
  Serve : Serving → Task
  Drill : (n key : ℕ) → Task

-- NAME: a local part, as it is prepared (RFC 7622, 3.3)
abbrev pub name_in : List ℕ → Option (List ℕ)
name_in word = result_ok (local_of word)

-- `account NAME SALT`, where SALT is base64 (RFC 4648, 4, with its padding) of 8 to 64 bytes
abbrev pub make_of : List ℕ → List ℕ → Option Task
make_of name salt = on (name_in name) (λ local. on (salt_in salt) (λ bytes. Some (Make local bytes)))

-- the words after `account`, of which none is empty or begins with `-`
abbrev pub account_task : List (List ℕ) → Option Task
account_task (name ∷ salt ∷ []) = if is_value name && is_value salt then make_of name salt else None
account_task _ = None

-- the words after `replay`, which are none
abbrev pub replay_task : List (List ℕ) → Option Task
replay_task [] = Some Play
replay_task _ = None

-- the words after `serve`
abbrev pub serve_task : List (List ℕ) → Option Task
serve_task words = on (wanted words) (λ w. Some (Serve w))

-- `drill N KEY`, where N is at most 100,000, and KEY has at most 64 bits
abbrev pub drill_of : List ℕ → List ℕ → Option Task
drill_of n key = on (number 0 100000 n) (λ rounds. on (number 0 (2 ^ 64 - 1) key) (λ k. Some (Drill rounds k)))

-- the words after `drill`
abbrev pub drill_task : List (List ℕ) → Option Task
drill_task (n ∷ key ∷ []) = drill_of n key
drill_task _ = None

-- what the words ask for: the first names the command by its exact bytes
abbrev pub task_of : List (List ℕ) → Option Task
task_of [] = None
task_of (first ∷ words) =
    if bytes_eq first (codes "replay") then replay_task words
    else if bytes_eq first (codes "account") then account_task words
    else if bytes_eq first (codes "serve") then serve_task words
    else if bytes_eq first (codes "drill") then drill_task words
    else None

-- what was read of a word, or why nothing was
abbrev pub Reads : {X Y : Type 0} → (Y → X) → Option X → Result Y Status → Type 0
Reads seen read (Ok value) = read ≡ Some (seen value)
Reads seen read (Err s) = IsRefusal read s

-- a command's task
abbrev pub task : Command → Task
task command.Replay = Play
task (command.Account name salt) = Make name salt.items
task (command.Serve serving) = Serve serving
task (command.Drill n key) = Drill n key

-- a server has a worker at least, each worker a place, and all together at most 16,384
abbrev pub HasPlaces : Command → Type 0
HasPlaces command.Replay = ⊤
HasPlaces (command.Account name salt) = ⊤
HasPlaces (command.Serve serving) = (0 < serving.workers) × (0 < serving.links) × (serving.workers * serving.links ≤ 16384)
HasPlaces (command.Drill n key) = ⊤
