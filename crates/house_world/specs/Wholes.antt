-- What is true of every world in memory.
use Rattle.std.specs.Prelude.{◌≡◌, ℕ, ◌+◌, ◌<◌, ◌≤◌, ◌^◌, List, true, length, Some, None, IfSome, IsSome, IsSomeAnd}
use Rattle.std.specs.List.{AllByRecursion}
use Rattle.stanza_tree.specs.declared.frame.Entry.{Entry}
use Rattle.stanza_tree.specs.Entries.{frame}
use Rattle.sm_queue.specs.Queues.{spare}
use Rattle.session_table.specs.declared.life.Life.TheVariants.{Live}
use Rattle.session_table.specs.declared.line.Line.TheVariants.{Logged, Bound}
use Rattle.session_table.specs.Sessions.{SessionRecord}
use Rattle.session_table.specs.Tables.{TableRecord, line_of, session_of}
use Rattle.house_model.specs.declared.answer.Answer.{Answer}
use Rattle.house_model.specs.Answers.{answer_text}
use Rattle.house_model.specs.Fitting.{IsShortAddress}

-- how many bytes a frame may have
abbrev pub most_of_frame : ℕ
most_of_frame = 524288

-- answers that wait at a line: there is room for the most, and each fits a pull
pub record AreReady (answers : List Answer) (room : ℕ) : Type 0 where
  pub room_is : 8 ≤ room
  pub short : AllByRecursion (λ a. length (answer_text a) ≤ most_of_frame) answers

abbrev pub AreShort : List Entry → Type 0
AreShort entries = AllByRecursion (λ e. length (frame e) ≤ most_of_frame) entries

-- what is true of each session that is there: the places of its traffic are in order, each frame fits a pull, one that no line holds, or
-- that has an id, counts, a presence that is kept has at most so many bytes, and so has its address, and its pushes are counted
pub record IsSession (x : SessionRecord) : Type 0 where
  pub given : x.queue.given ≤ length x.queue.waiting
  pub asked : x.asked_at ≤ x.given_up + x.queue.given
  pub base_in : x.base_in ≤ x.acted
  pub short : AreShort x.queue.waiting
  pub away : x.state ≡ Live → x.holder ≡ None → x.counts ≡ true
  pub known : IsSome x.resume_id → x.counts ≡ true
  pub shown : IfSome x.presence (λ p. length p ≤ 16384)
  pub pushes : x.pushes < 2 ^ 64
  pub address : IsShortAddress x.address

-- session s is there, goes on, and line w holds it
abbrev pub IsHeldBy : ℕ → ℕ → TableRecord → Type 0
IsHeldBy w s t = IsSomeAnd (session_of s t) (λ x. (x.state ≡ Live) × (x.holder ≡ Some w))

-- where session s is there, so many stanzas more can wait without memory being taken
abbrev pub HasSpare : (entries s : ℕ) → TableRecord → Type 0
HasSpare n s t = (x : SessionRecord) → session_of s t ≡ Some x → n ≤ spare x.queue

-- no session is held at line w
abbrev pub IsFreeLine : ℕ → TableRecord → Type 0
IsFreeLine w t = (s : ℕ) (x : SessionRecord) → session_of s t ≡ Some x → x.holder ≡ Some w → ⊥

-- a line and the session that is bound there name each other
pub record IsTied (t : TableRecord) : Type 0 where
  pub bound : (w c s : ℕ) → line_of w t ≡ Bound c s → IsHeldBy w s t
  pub holds : (s w : ℕ) (x : SessionRecord) → session_of s t ≡ Some x → x.holder ≡ Some w
      → (x.state ≡ Live) × ((c : ℕ) × (line_of w t ≡ Bound c s))
  pub each : (s : ℕ) (x : SessionRecord) → session_of s t ≡ Some x → IsSession x

-- nothing is counted that no turn did
pub record IsFew (turns : ℕ) (t : TableRecord) : Type 0 where
  pub opened : t.opened ≤ turns
  pub made : t.made ≤ turns
  pub sent : (s : ℕ) (x : SessionRecord) → session_of s t ≡ Some x → x.given_up + x.queue.given ≤ turns
  pub acted : (s : ℕ) (x : SessionRecord) → session_of s t ≡ Some x → x.acted ≤ turns

-- each connection that is logged in is some user's
abbrev pub AreUsers : ℕ → TableRecord → Type 0
AreUsers many t = (w c u : ℕ) → line_of w t ≡ Logged c u → u < many
