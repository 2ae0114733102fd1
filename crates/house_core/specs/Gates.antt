-- What the checks before an event answer.
use Rattle.std.specs.Prelude.{◌≡◌, ℕ, ◌<◌, Bool, true, false, [], length, Option, Some, None, slice_index_or, ⊤}
use Rattle.session_table.specs.Tables.{line_of}
use Rattle.house_world.specs.Wholes.{IsHeldBy}
use Rattle.session_table.specs.declared.line.Line as stage
use Rattle.session_table.specs.declared.line.Line.TheVariants.{Empty, Fresh, Logged, Bound, Over}
use Rattle.house_model.specs.declared.reply.Reply.TheVariants as reply
use Rattle.house_model.specs.Gate as model
use Rattle.house_core.specs.declared.gate.Needs.{Needs}
use Rattle.house_core.specs.declared.gate.Pass.{Pass}
use Rattle.house_core.specs.declared.gate.Pass.TheVariants.{Stop, Waits, Knows, Holds}
use Rattle.house_world.specs.declared.world.World.{World}
use Rattle.house_world.specs.Worlds.{Did}

abbrev pub needs_of : Needs → model.Needs
needs_of n = record { fresh = n.fresh; logged = n.logged; bound = n.bound; answers = n.answers }

-- none where too many answers wait
abbrev pub looks : (fits full : Bool) → Pass → Option Pass
looks false full pass = Some (Stop reply.Unready)
looks true true pass = None
looks true false pass = Some pass

abbrev pub look_at : Needs → stage.Line → Bool → Option Pass
look_at n Empty full = Some (Stop reply.Absent)
look_at n (Over c cause) full = Some (Stop (reply.Over cause))
look_at n (Fresh c) full = looks n.fresh full Waits
look_at n (Logged c u) full = looks n.logged full (Knows c u)
look_at n (Bound c s) full = looks n.bound full (Holds c s)

-- what the gate of the definition lets through, or its verdict, which was done
abbrev pub Passes : Pass → model.Pass → World → World → Type 0
Passes (Stop r) p old new = (v : model.Verdict) × ((p ≡ model.Stop v) × ((r ≡ v.reply) × (([] ≡ v.text) × Did v.effects 0 old new)))
Passes Waits p old new = (p ≡ model.Waits) × (new ≡ old)
Passes (Knows c u) p old new = (p ≡ model.Knows c u) × (new ≡ old)
Passes (Holds c s) p old new = (p ≡ model.Holds c s) × (new ≡ old)

-- there is room for one answer more, where the event may add one
abbrev pub HasRoom : Needs → World → ℕ → Type 0
HasRoom n a w = n.answers ≡ true → length (slice_index_or a.answers.items w []) < 8

-- what is known of the line that was let through
abbrev pub Found : Needs → Pass → World → ℕ → Type 0
Found n (Stop r) a w = ⊤
Found n Waits a w = (c : ℕ) × (line_of w a.table ≡ Fresh c)
Found n (Knows c u) a w = (line_of w a.table ≡ Logged c u) × HasRoom n a w
Found n (Holds c s) a w = (line_of w a.table ≡ Bound c s) × (IsHeldBy w s a.table × HasRoom n a w)
