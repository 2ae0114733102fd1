-- What events do, as effects that are applied one after another; the same on the whole state and on what is kept of it.
use Rattle.std.specs.Prelude.{ℕ, ◌+◌, ◌==◌, ◌&&◌, List, [], ◌∷◌, ◌++◌, drop, Bool, true, false}
use Rattle.jid_core.specs.Addresses.{Address}
use Rattle.sm_resume.specs.declared.decision.Cause.{Cause}
use Rattle.sm_resume.specs.declared.decision.Cause.TheVariants.{Moved}
use Rattle.session_table.specs.declared.line.Line as stage
use Rattle.session_table.specs.declared.line.Line.TheVariants.{Fresh, Logged, Bound, Over}
use Rattle.house_model.specs.declared.answer.Answer.{Answer}
use Rattle.stanza_model.specs.declared.effect.Change.{Change}
use Rattle.stanza_model.specs.declared.effect.Change.TheVariants.{RoomGone}
use Rattle.stanza_model.specs.declared.effect.Effect as stanza
use Rattle.stanza_model.specs.declared.effect.Effect.TheVariants.{Set}
use Rattle.archive_table.specs.Archives.{Archives, filed}
use Rattle.archive_table.specs.declared.filing.Filing.{Filing}
use Rattle.archive_table.specs.declared.filing.Filing.TheVariants.{NoRoom}
use Rattle.contact_table.specs.Books.{noted}
use Rattle.muc_service.specs.Rooms.{step}
use Rattle.house_model.specs.Numbered.{put}
use Rattle.house_model.specs.Sessions.{Hold, Held, Away, Ended, Gone, Ways, Op, begun, session_step}
use Rattle.house_model.specs.States.{Line, World, empty_line}

-- what happens to a line alone
pub data LineOp : Type 0 where
  Log : (user : ℕ) → LineOp
  Say : (answer : Answer) → LineOp  -- an answer waits
  Said : LineOp  -- the oldest answer was given
  Leave : LineOp
  Close : (conn : ℕ) → (cause : Cause) → LineOp  -- the connection is over, and its answers are lost

pub data Effect : Type 0 where
  Open : (w : ℕ) → Effect  -- the next connection is at the line
  At : (w : ℕ) → (op : LineOp) → Effect
  Begin : (w conn : ℕ) → (address : Address) → Effect  -- the next session is held there
  On : (s : ℕ) → (op : Op) → Effect  -- what happens to the session of this number
  Note : (change : Change) → Effect  -- what is kept of users
  Hosts : (effect : stanza.Effect) → Effect  -- what becomes of the rooms
  Files : (filing : Filing) → Effect  -- a message is kept

abbrev pub logged : ℕ → stage.Line → stage.Line
logged user (Fresh c) = Logged c user
logged user g = g

abbrev pub line_step : LineOp → Line → Line
line_step (Log user) l = record l { stage = logged user l.stage }
line_step (Say a) l = record l { answers = l.answers ++ a ∷ [] }
line_step Said l = record l { answers = drop 1 l.answers }
line_step Leave l = empty_line
line_step (Close c cause) l = record { stage = Over c cause; answers = [] }

abbrev pub fresh_line : ℕ → Line
fresh_line c = record { stage = Fresh c; answers = [] }

abbrev pub over_line : ℕ → Cause → Line
over_line c cause = record { stage = Over c cause; answers = [] }

abbrev pub bound_line : (conn s : ℕ) → Line → Line
bound_line c s l = record l { stage = Bound c s }

abbrev pub moved_if : Bool → (s w c v d : ℕ) → (ℕ → Line) → ℕ → Line
moved_if true s w c v d ls = ls
moved_if false s w c v d ls = put v (bound_line d s (ls v)) (put w (over_line c (Moved d)) ls)

-- The lines, where session s was held so and then so: the connection that held it is over with the session's cause, is left, or lost it to
-- another; and the one that holds it now is bound.
abbrev pub settled : ℕ → Hold → Hold → (ℕ → Line) → ℕ → Line
settled s (Held w c) (Held v d) ls = moved_if ((w == v) && (c == d)) s w c v d ls
settled s (Held w c) (Ended cause) ls = put w (over_line c cause) ls
settled s (Held w c) Away ls = put w empty_line ls
settled s (Held w c) Gone ls = put w empty_line ls
settled s m (Held v d) ls = put v (bound_line d s (ls v)) ls
settled s m n ls = ls

abbrev pub touch : {T : Type 0} → Ways T → ℕ → Op → World T → World T
touch z s op world = record world {
  lines = settled s (world.sessions s).hold (session_step z (world.sessions s) op).hold world.lines;
  sessions = put s (session_step z (world.sessions s) op) world.sessions;
}

-- a room that is there no more takes its archive with it
abbrev pub archives_with : stanza.Effect → Archives → Archives
archives_with (Set (RoomGone n)) archives = filed (NoRoom n) archives
archives_with x archives = archives

abbrev pub apply : {T : Type 0} → Ways T → World T → Effect → World T
apply z world (Open w) = record world { opened = world.opened + 1; lines = put w (fresh_line (world.opened + 1)) world.lines }
apply z world (At w op) = record world { lines = put w (line_step op (world.lines w)) world.lines }
apply z world (Begin w c address) = record world {
  lines = put w (bound_line c (world.made + 1) (world.lines w)) world.lines;
  made = world.made + 1;
  sessions = put (world.made + 1) (begun z w c address) world.sessions;
}
apply z world (On s op) = touch z s op world
apply z world (Note change) = record world { book = noted change world.book }
apply z world (Hosts x) = record world { rooms = step x world.rooms; archives = archives_with x world.archives }
apply z world (Files filing) = record world { archives = filed filing world.archives }

abbrev pub apply_all : {T : Type 0} → Ways T → World T → List Effect → World T
apply_all z world [] = world
apply_all z world (e ∷ more) = apply_all z (apply z world e) more
