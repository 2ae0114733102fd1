-- What one effect makes of a world.
use Rattle.std.proofs.Common.{◌≡◌, inl, inr, ℕ, ◌+◌, ◌<◌, ◌≤◌, ◌&&◌, List, [], ◌∷◌, ◌++◌, length, get_or, Some, refl, sym, ap, ◌∙◌, arith}
use Rattle.std.proofs.lemmas.Bool.Decides.{eqb_tells}
use Rattle.std.proofs.lemmas.List.{length-set}
use Rattle.std.specs.Vec.{with_item}
use Rattle.session_table.specs.declared.life.Life.TheVariants.{Live}
use Rattle.session_table.specs.Sessions.{SessionRecord}
use Rattle.session_table.specs.Tables.{TableRecord, conn_of, line_of, session_of, with_session}
use Rattle.archive_table.specs.Tables.{archives_of}
use Rattle.house_model.specs.declared.answer.Answer.{Answer}
use Rattle.house_model.specs.Numbered.{put}
use Rattle.house_model.specs.Sessions.{Hold, Held, Op, Session, session, step_if, session_step}
use Rattle.house_model.specs.Traffic.{KeptTraffic, brief}
use Rattle.house_model.specs.States.{Line}
use Rattle.house_model.specs.Effects.{At, On, Say, moved_if, settled, apply}
use Rattle.house_world.specs.declared.world.World as code
use Rattle.house_world.specs.Views.{traffic_of, rest_of, session_by, sessions_of, lines_of, world_of}
use Rattle.house_world.specs.Wholes.{IsSession, IsTied, IsFew}
use Rattle.house_world.specs.Worlds.{seen, Did}
use Rattle.house_world.proofs.ReadLemmas.{held_is, seen_with, sessions_put, world_said}
use Rattle.house_world.proofs.TiedLemmas.{tied_with, few_with}
use Rattle.house_world.proofs.BookLemmas.{book_same}

pub few_later : (n m : ℕ) (t : TableRecord) → IsFew n t → n ≤ m → IsFew m t
few_later n m t few less = record {
  opened = omega (arith, few.opened, less);
  made = omega (arith, few.made, less);
  sent = λ k z is. (let old = few.sent k z is in omega (arith, old, less));
  acted = λ k z is. (let old = few.acted k z is in omega (arith, old, less));
}

-- an answer more
pub said_did : (w : ℕ) (answer : Answer) (a : code.World) (now : List Answer) → IsTied a.table → w < length a.answers.items
    → now ≡ get_or a.answers.items w [] ++ answer ∷ []
    → Did (At w (Say answer) ∷ []) 0 a (record a { answers = with_item a.answers w now })
said_did w answer a now tied low is = record {
  world = world_said a.table a.answers.items a.book.book a.rooms (archives_of a.archives) w now (get_or a.answers.items w [] ++ answer ∷ []) low is;
  tied = tied;
  known = λ many users. users;
  few = λ turns few. few_later turns (turns + 0) a.table few (omega arith);
  lines = refl;
  answered = length-set a.answers.items w now;
  kept = book_same;
}

-- a session that is held as before leaves the lines as they are
pub moved_same : (s w c : ℕ) (ls : ℕ → Line) → settled s (Held w c) (Held w c) ls ≡ ls
moved_same s w c ls = elim (eqb_tells w w) [
  | inl p ↦ elim (eqb_tells c c) [
    | inl q ↦ (λ i. moved_if (p.0 i && q.0 i) s w c w c ls)
    | inr q ↦ absurd (q.1 refl)
  ]
  | inr p ↦ absurd (p.1 refl)
]

-- what happens to a session that is held, and stays so
module _ (a : code.World) (s w : ℕ) (x y : SessionRecord) (op : Op) (at : session_of s a.table ≡ Some x)
    (live : x.state ≡ Live) (holder : x.holder ≡ Some w) (state' : y.state ≡ x.state) (holder' : y.holder ≡ x.holder)
    (is : session y.counts (Held w (conn_of (line_of w a.table))) (traffic_of y) (rest_of y)
    ≡ step_if brief x.counts (Held w (conn_of (line_of w a.table))) (traffic_of x) (rest_of x) op) where
  abbrev t : TableRecord
  t = a.table

  abbrev hold : Hold
  hold = Held w (conn_of (line_of w a.table))

  abbrev ls : ℕ → Line
  ls = lines_of a.table a.answers.items

  before : sessions_of t s ≡ session x.counts hold (traffic_of x) (rest_of x)
  before = ap (session_by t.lines) at ∙ seen_with x t.lines hold (held_is x.state x.holder t.lines w live holder)

  after : session_by t.lines (Some y) ≡ session y.counts hold (traffic_of y) (rest_of y)
  after = seen_with y t.lines hold (held_is y.state y.holder t.lines w (state' ∙ live) (holder' ∙ holder))

  stepped : session_step brief (sessions_of t s) op ≡ session y.counts hold (traffic_of y) (rest_of y)
  stepped = ap (λ (o : Session KeptTraffic). session_step brief o op) before ∙ sym is

  same_lines : settled s (sessions_of t s).hold (session_step brief (sessions_of t s) op).hold ls ≡ ls
  same_lines = (λ i. settled s (before i).hold (stepped i).hold ls) ∙ moved_same s w (conn_of (line_of w a.table)) ls

  one_session : sessions_of (with_session s t y) ≡ put s (session_step brief (sessions_of t s) op) (sessions_of t)
  one_session = sessions_put t (λ _. y) s x at ∙ ap (λ (o : Session KeptTraffic). put s o (sessions_of t)) (after ∙ sym stepped)

  held_world : world_of (with_session s t y) a.answers.items a.book.book a.rooms (archives_of a.archives) ≡ apply brief (seen a) (On s op)
  held_world = λ i. record {
    opened = t.opened;
    book = a.book.book;
    rooms = a.rooms;
    archives = archives_of a.archives;
    lines = sym same_lines i;
    made = t.made;
    sessions = one_session i;
  }

  pub held_did : (more : ℕ) → IsTied a.table → IsSession y
      → ((turns : ℕ) → IsFew turns a.table → (y.given_up + y.queue.given ≤ turns + more) × (y.acted ≤ turns + more))
      → Did (On s op ∷ []) more a (record a { table = with_session s a.table y })
  held_did more tied ready numbers = record {
    world = held_world;
    tied = tied_with s t x y tied at state' holder' ready;
    known = λ many users. users;
    few = λ turns few. (let now = numbers turns few in few_with s turns (turns + more) t x y few at (omega arith) now.0 now.1);
    lines = refl;
    answered = refl;
    kept = book_same;
  }
