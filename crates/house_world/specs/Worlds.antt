-- The world in memory, and what effects make of it.
use Rattle.std.specs.Prelude.{◌≡◌, ℕ, ◌+◌, ◌<◌, ◌≤◌, Bool, true, false, List, [], ◌∷◌, Option, Some, None, IsSomeAnd, length, slice_index_or}
use Rattle.sm_resume.specs.declared.decision.Cause.{Cause}
use Rattle.sm_resume.specs.declared.decision.Cause.TheVariants.{Lost}
use Rattle.session_table.specs.declared.life.Life.TheVariants.{Over}
use Rattle.sm_resume.specs.declared.id.ResumeId.{ResumeId}
use Rattle.session_table.specs.Sessions.{OwnRecord, SessionRecord, ended, left_until, own_of, with_own}
use Rattle.house_model.specs.Gate.{Verdict, left_by, patience}
use Rattle.house_model.specs.declared.reply.Reply.{Reply}
use Rattle.session_table.specs.declared.line.Line as stage
use Rattle.session_table.specs.declared.line.Line.TheVariants.{Bound, Logged}
use Rattle.house_world.specs.declared.world.World as code
use Rattle.sm_queue.specs.Queues.{acknowledged, marked_sent, without, without_sent}
use Rattle.house_model.specs.Traffic.{KeptTraffic, brief}
use Rattle.house_model.specs.States.{World}
use Rattle.house_model.specs.Effects.{Effect, On, apply_all}
use Rattle.house_world.specs.Views.{world_of}
use Rattle.house_world.specs.Keeping.{Keeps}
use Rattle.house_world.specs.Wholes.{IsHeldBy, IsTied, IsFew, AreUsers}
use Rattle.archive_table.specs.Tables.{archives_of}
use Rattle.session_table.specs.Tables.{TableRecord, is_there, line_of, session_of}

abbrev pub seen : code.World → World KeptTraffic
seen x = world_of x.table x.answers.items x.book.book x.rooms (archives_of x.archives)

-- session s is held at some line
abbrev pub IsHeld : ℕ → TableRecord → Type 0
IsHeld s t = (w : ℕ) × IsHeldBy w s t

-- session s is there, and over
abbrev pub IsOver : ℕ → TableRecord → Type 0
IsOver s t = IsSomeAnd (session_of s t) (λ x. (cause : Cause) × (x.state ≡ Over cause))

-- where session s is there, it counts its stanzas, or does not
abbrev pub Counts : Bool → ℕ → TableRecord → Type 0
Counts b s t = (x : SessionRecord) → session_of s t ≡ Some x → x.counts ≡ b

-- a session whose connection is lost
abbrev pub released_by : Option ResumeId → ℕ → SessionRecord → SessionRecord
released_by None moment x = ended Lost x
released_by (Some id) moment x = left_until (moment + patience) x

abbrev pub released : ℕ → SessionRecord → SessionRecord
released moment x = released_by x.resume_id moment x

-- What a world became by effects, which counted at most so many events more: lines and sessions name each other as before.
pub record Did (effects : List Effect) (more : ℕ) (old new : code.World) : Type 0 where
  pub world : seen new ≡ apply_all brief (seen old) effects
  pub tied : IsTied new.table
  pub known : (many : ℕ) → AreUsers many old.table → AreUsers many new.table
  pub few : (turns : ℕ) → IsFew turns old.table → IsFew (turns + more) new.table
  pub lines : length new.table.lines ≡ length old.table.lines
  pub answered : length new.answers.items ≡ length old.answers.items
  pub kept : Keeps old.book new.book

-- what becomes of the session at a line that is left
abbrev pub left_at : World KeptTraffic → ℕ → stage.Line → List Effect
left_at world moment (Bound c s) = On s (left_by (world.sessions s).rest.resume_id moment) ∷ []
left_at world moment g = []

-- a verdict, as it was carried out
pub record Ends (v : Verdict) (more : ℕ) (reply : Reply) (old new : code.World) : Type 0 where
  pub answer : reply ≡ v.reply
  pub did : Did v.effects more old new

-- where session s is there, so many more of what was given are handled by this count
abbrev pub Handles : (h n s : ℕ) → TableRecord → Type 0
Handles h n s t = (x : SessionRecord) → session_of s t ≡ Some x → (acknowledged h x.queue ≡ Some n) × (n ≤ x.queue.given)

-- where session s is there, a stanza waits that was not given
abbrev pub HasNext : ℕ → TableRecord → Type 0
HasNext s t = (x : SessionRecord) → session_of s t ≡ Some x → x.queue.given < length x.queue.waiting

-- the next stanza of a session was given; where it doesn't count, that stanza is done with
abbrev pub given_next : Bool → OwnRecord → OwnRecord
given_next true own = record own { queue = marked_sent own.queue }
given_next false own = record own { queue = without_sent (marked_sent own.queue); given_up = own.given_up + (own.queue.given + 1) }

-- the lines on which nobody has a session yet, and what waits there, are as before
abbrev pub KeepsLogged : (old new : code.World) → Type 0
KeepsLogged old new = (w c u : ℕ) → line_of w old.table ≡ Logged c u
    → (line_of w new.table ≡ Logged c u) × (slice_index_or new.answers.items w [] ≡ slice_index_or old.answers.items w [])

-- the same connections are logged in, each session that was there is there, one that was over is over, and there is as much room for
-- another
pub record Stays (old new : code.World) : Type 0 where
  pub logged : KeepsLogged old new
  pub there : (s : ℕ) → is_there s old.table ≡ true → is_there s new.table ≡ true
  pub over : (s : ℕ) → IsOver s old.table → IsOver s new.table
  pub spare : new.table.spare ≡ old.table.spare

-- the client that resumes handled n of the stanzas that were given: the others are given again
abbrev pub rewound : ℕ → OwnRecord → OwnRecord
rewound n own = record own {
  queue = record (without n own.queue) { given = 0 };
  given_up = own.given_up + n;
  asked_at = own.given_up + n;
}

-- the session of whose stanzas it handled n
abbrev pub rewound_to : ℕ → SessionRecord → SessionRecord
rewound_to n x = with_own (rewound n (own_of x)) x
