-- The session of a connection ends, or is left.
use Rattle.std.proofs.Common.{◌≡◌, ℕ, ◌+◌, ◌<◌, ◌≤◌, List, [], ◌∷◌, Bool, true, false, length, set, Option, Some, None, refl, sym, ap, subst, ◌∙◌, arith}
use Rattle.std.specs.Prelude.{IsSome, is_some}
use Rattle.std.proofs.lemmas.List.{length-set}
use Rattle.std.specs.Vec.{with_item}
use Rattle.sm_resume.specs.declared.decision.Cause.{Cause}
use Rattle.sm_resume.specs.declared.decision.Cause.TheVariants.{Lost}
use Rattle.sm_resume.specs.declared.id.ResumeId.{ResumeId}
use Rattle.session_table.specs.declared.life.Life.TheVariants as life
use Rattle.session_table.specs.declared.line.Line as stage
use Rattle.session_table.specs.declared.line.Line.TheVariants.{Empty, Fresh, Logged, Over}
use Rattle.session_table.specs.Sessions.{SessionRecord, ended, left_until}
use Rattle.session_table.specs.Tables.{TableRecord, Rises, conn_of, line_of, session_of, changed, with_line, with_conn, with_session, line_ended}
use Rattle.session_table.proofs.ListLemmas.{with_session_changed}
use Rattle.archive_table.specs.Tables.{archives_of}
use Rattle.house_model.specs.declared.answer.Answer.{Answer}
use Rattle.house_model.specs.Numbered.{put}
use Rattle.house_model.specs.Sessions.{Hold, Held, Away, Ended, Op, End, Drop, session, step_if}
use Rattle.house_model.specs.Traffic.{brief}
use Rattle.house_model.specs.States.{Line, empty_line}
use Rattle.house_model.specs.Effects.{Effect, At, On, Open, Leave, Close, over_line, settled, apply}
use Rattle.house_model.specs.Gate.{left_by, patience}
use Rattle.house_world.specs.Keeping.{Keeps}
use Rattle.house_world.specs.declared.world.World as code
use Rattle.house_world.specs.Views.{hold_by, traffic_of, rest_of, session_by, lines_of, world_of}
use Rattle.house_world.specs.Wholes.{IsSession, IsHeldBy, IsFreeLine, IsTied}
use Rattle.house_world.specs.Worlds.{seen, released_by, released, Did}
use Rattle.house_world.proofs.BookLemmas.{book_same}
use Rattle.house_world.proofs.TiedLemmas.{IsUnbound}
use Rattle.house_world.proofs.OffLemmas.{there, end_is, put_twice, off_free, off_world, off_lines, off_did}

pub ended_ready : (cause : Cause) (x : SessionRecord) → IsSession x → IsSession (ended cause x)
ended_ready cause x ready = record {
  given = ready.given;
  asked = ready.asked;
  base_in = ready.base_in;
  short = ready.short;
  away = λ live none. absurd (let z : life.Over cause ≡ life.Live = live in cc);
  known = ready.known;
  shown = ready.shown;
  pushes = ready.pushes;
  address = ready.address;
}

-- the session ends
module _ (a : code.World) (w s : ℕ) (cause : Cause) (tied : IsTied a.table) (low : w < length a.table.lines)
    (answered : length a.answers.items ≡ length a.table.lines) (held : IsHeldBy w s a.table) where
  abbrev who : (x : SessionRecord) × (session_of s a.table ≡ Some x) × ((x.state ≡ life.Live) × (x.holder ≡ Some w))
  who = there (λ (x : SessionRecord). (x.state ≡ life.Live) × (x.holder ≡ Some w)) (session_of s a.table) held

  abbrev x : SessionRecord
  x = who.0

  abbrev line : stage.Line
  line = Over (conn_of (line_of w a.table)) cause

  pub end_free : IsFreeLine w (changed s (ended cause) a.table)
  end_free = off_free a w s x (ended cause) (End cause) tied low answered who.1 who.2.0 who.2.1 refl
      (end_is x.counts w (conn_of (line_of w a.table)) (traffic_of x) (rest_of x) cause)

  pub end_did : (b : TableRecord) (now : List Answer) → b ≡ line_ended w cause (changed s (ended cause) a.table) → now ≡ []
      → Did (On s (End cause) ∷ []) 0 a (record a { table = b; answers = with_item a.answers w now })
  end_did b now is empty =
      let step = end_is x.counts w (conn_of (line_of w a.table)) (traffic_of x) (rest_of x) cause in
      off_did a w s x (ended cause) (End cause) tied low answered who.1 who.2.0 who.2.1 refl step
      line (record a { table = b; answers = with_item a.answers w now }) (On s (End cause) ∷ []) 0
      (λ d n e. (cc)) (λ d n e. (cc)) (ended_ready cause x (tied.each s x who.1)) refl refl
      (ap (λ (t : TableRecord). t.lines) is) (ap (λ (t : TableRecord). t.sessions) is) (ap (λ (t : TableRecord). t.made) is)
      (subst (λ (t : TableRecord). t.opened ≤ a.table.opened + 0) (sym is) (omega arith))
      (length-set a.answers.items w now) book_same
      ((λ i. world_of (is i) (set a.answers.items w (empty i)) a.book.book a.rooms (archives_of a.archives))
      ∙ (off_world a w s x (ended cause) (End cause) tied low answered who.1 who.2.0 who.2.1 refl step line
      ∙ (λ i. record (apply brief (seen a) (On s (End cause))) {
        lines = sym (off_lines a w s x (ended cause) (End cause) tied low answered who.1 who.2.0 who.2.1 refl step
            (over_line (conn_of (line_of w a.table)) cause) (Ended cause) refl refl) i;
      })))

-- the session is left, with an id or without
released_empty : (o : Option ResumeId) (moment : ℕ) (x : SessionRecord) → (released_by o moment x).holder ≡ None
released_empty None moment x = refl
released_empty (Some id) moment x = refl

released_sent : (o : Option ResumeId) (moment : ℕ) (x : SessionRecord)
    → (released_by o moment x).given_up + (released_by o moment x).queue.given ≡ x.given_up + x.queue.given
released_sent None moment x = refl
released_sent (Some id) moment x = refl

released_acted : (o : Option ResumeId) (moment : ℕ) (x : SessionRecord) → (released_by o moment x).acted ≡ x.acted
released_acted None moment x = refl
released_acted (Some id) moment x = refl

released_ready : (o : Option ResumeId) (moment : ℕ) (x : SessionRecord) → (IsSome o → x.counts ≡ true) → IsSession x
    → IsSession (released_by o moment x)
released_ready None moment x counts ready = ended_ready Lost x ready
released_ready (Some id) moment x counts ready = record {
  given = ready.given;
  asked = ready.asked;
  base_in = ready.base_in;
  short = ready.short;
  away = λ live none. counts refl;
  known = ready.known;
  shown = ready.shown;
  pushes = ready.pushes;
  address = ready.address;
}

released_is : (o : Option ResumeId) (moment : ℕ) (x : SessionRecord) (ls : List stage.Line) (v d : ℕ) → x.state ≡ life.Live
    → (IsSome o → x.counts ≡ true)
    → session_by ls (Some (released_by o moment x)) ≡ step_if brief x.counts (Held v d) (traffic_of x) (rest_of x) (left_by o moment)
released_is None moment x ls v d live counts = end_is x.counts v d (traffic_of x) (rest_of x) Lost
released_is (Some id) moment x ls v d live counts =
    (λ i. session (counts refl i) (hold_by (live i) None ls) (traffic_of x) (record (rest_of x) { deadline = Some (moment + patience) }))
    ∙ sym (ap (λ (b : Bool). step_if brief b (Held v d) (traffic_of x) (rest_of x) (Drop (moment + patience))) (counts refl))

-- how the line is, before it changes again
abbrev pub line_left : Option ResumeId → ℕ → Line
line_left None c = over_line c Lost
line_left (Some id) c = empty_line

abbrev pub hold_left : Option ResumeId → Hold
hold_left None = Ended Lost
hold_left (Some id) = Away

released_hold : (o : Option ResumeId) (moment : ℕ) (x : SessionRecord) (ls : List stage.Line) → x.state ≡ life.Live
    → hold_by (released_by o moment x).state (released_by o moment x).holder ls ≡ hold_left o
released_hold None moment x ls live = refl
released_hold (Some id) moment x ls live = ap (λ l. hold_by l None ls) live

released_settles : (o : Option ResumeId) (s w c : ℕ) (ls : ℕ → Line) → settled s (Held w c) (hold_left o) ls ≡ put w (line_left o c) ls
released_settles None s w c ls = refl
released_settles (Some id) s w c ls = refl

module _ (a : code.World) (w s moment : ℕ) (tied : IsTied a.table) (low : w < length a.table.lines)
    (answered : length a.answers.items ≡ length a.table.lines) (held : IsHeldBy w s a.table) where
  abbrev him : (x : SessionRecord) × (session_of s a.table ≡ Some x) × ((x.state ≡ life.Live) × (x.holder ≡ Some w))
  him = there (λ (x : SessionRecord). (x.state ≡ life.Live) × (x.holder ≡ Some w)) (session_of s a.table) held

  abbrev y : SessionRecord
  y = him.0

  abbrev op : Op
  op = left_by y.resume_id moment

  leaving : session_by a.table.lines (Some (released moment y))
      ≡ step_if brief y.counts (Held w (conn_of (line_of w a.table))) (traffic_of y) (rest_of y) op
  leaving = released_is y.resume_id moment y a.table.lines w (conn_of (line_of w a.table)) him.2.0 (tied.each s y him.1).known

  -- the operation, as the world tells
  pub op_is : left_by ((seen a).sessions s).rest.resume_id moment ≡ op
  op_is = ap (λ (o : Option SessionRecord). left_by (session_by a.table.lines o).rest.resume_id moment) him.1

  pub leave_free : IsFreeLine w (changed s (released moment) a.table)
  leave_free = off_free a w s y (released moment) op tied low answered him.1 him.2.0 him.2.1 (released_empty y.resume_id moment y) leaving

  left_world : (l : stage.Line)
      → world_of (with_line w l (changed s (released moment) a.table)) (set a.answers.items w []) a.book.book a.rooms (archives_of a.archives)
      ≡ record (apply brief (seen a) (On s op)) { lines = put w (record { stage = l; answers = [] }) (apply brief (seen a) (On s op)).lines }
  left_world l =
      off_world a w s y (released moment) op tied low answered him.1 him.2.0 him.2.1 (released_empty y.resume_id moment y) leaving l
      ∙ (λ i. record (apply brief (seen a) (On s op)) {
        lines = (sym (put_twice w (record { stage = l; answers = [] }) (line_left y.resume_id (conn_of (line_of w a.table))) (lines_of a.table a.answers.items))
            ∙ ap (λ (f : ℕ → Line). put w (record { stage = l; answers = [] }) f)
            (sym (off_lines a w s y (released moment) op tied low answered him.1 him.2.0 him.2.1 (released_empty y.resume_id moment y) leaving
            (line_left y.resume_id (conn_of (line_of w a.table))) (hold_left y.resume_id) (released_hold y.resume_id moment y a.table.lines him.2.0)
            (released_settles y.resume_id s w (conn_of (line_of w a.table)) (lines_of a.table a.answers.items))))) i;
      })

  left_did : (l : stage.Line) (b : code.World) (e : Effect) (more : ℕ) → IsUnbound l → ((d u : ℕ) → l ≡ Logged d u → ⊥)
      → b.table.lines ≡ set a.table.lines w l → b.table.sessions ≡ (changed s (released moment) a.table).sessions → b.table.made ≡ a.table.made
      → b.table.opened ≤ a.table.opened + more → length b.answers.items ≡ length a.answers.items → Keeps a.book b.book
      → seen b ≡ apply brief (apply brief (seen a) (On s op)) e
      → Did (On s (left_by ((seen a).sessions s).rest.resume_id moment) ∷ e ∷ []) more a b
  left_did l b e more unbound unlogged lines sessions made opened answers kept world =
      subst (λ (o : Op). Did (On s o ∷ e ∷ []) more a b) (sym op_is)
      (off_did a w s y (released moment) op tied low answered him.1 him.2.0 him.2.1 (released_empty y.resume_id moment y) leaving
      l b (On s op ∷ e ∷ []) more unbound unlogged
      (released_ready y.resume_id moment y (tied.each s y him.1).known (tied.each s y him.1))
      (released_sent y.resume_id moment y) (released_acted y.resume_id moment y)
      lines sessions made opened answers kept world)

  pub leave_did : (b c : TableRecord) (now : List Answer) → c ≡ changed s (released moment) a.table → b ≡ with_line w Empty c → now ≡ []
      → (r : code.World) → r.answers ≡ a.answers → r.book ≡ a.book → r.rooms ≡ a.rooms → r.archives ≡ a.archives
      → Did (On s (left_by ((seen a).sessions s).rest.resume_id moment) ∷ At w Leave ∷ []) 0 a (record r { table = b; answers = with_item r.answers w now })
  leave_did b c now was is empty r same kept hosts files =
      let all : b ≡ with_line w Empty (changed s (released moment) a.table) = is ∙ ap (with_line w Empty) was in
      subst (λ z. Did (On s (left_by ((seen a).sessions s).rest.resume_id moment) ∷ At w Leave ∷ []) 0 a
      (record r { table = b; answers = with_item r.answers w now; book = z })) (sym kept)
      (subst (λ z. Did (On s (left_by ((seen a).sessions s).rest.resume_id moment) ∷ At w Leave ∷ []) 0 a
      (record r { table = b; answers = with_item r.answers w now; book = a.book; rooms = z })) (sym hosts)
      (subst (λ z. Did (On s (left_by ((seen a).sessions s).rest.resume_id moment) ∷ At w Leave ∷ []) 0 a
      (record r { table = b; answers = with_item r.answers w now; book = a.book; rooms = a.rooms; archives = z })) (sym files)
      (left_did Empty (record r { table = b; answers = with_item r.answers w now; book = a.book; rooms = a.rooms; archives = a.archives })
      (At w Leave) 0 (λ d n e. (cc)) (λ d n e. (cc))
      (ap (λ (t : TableRecord). t.lines) all) (ap (λ (t : TableRecord). t.sessions) all) (ap (λ (t : TableRecord). t.made) all)
      (subst (λ (t : TableRecord). t.opened ≤ a.table.opened + 0) (sym all) (omega arith))
      (ap (λ (xs : List (List Answer)). length (set xs w now)) (ap (λ v. v.items) same) ∙ length-set a.answers.items w now) book_same
      ((λ i. world_of (all i) (set (same i).items w (empty i)) a.book.book a.rooms (archives_of a.archives)) ∙ left_world Empty))))

  pub close_did : (b c : TableRecord) (now : List Answer) (cause : Cause) → c ≡ changed s (released moment) a.table → b ≡ line_ended w cause c → now ≡ []
      → (r : code.World) → r.answers ≡ a.answers → r.book ≡ a.book → r.rooms ≡ a.rooms → r.archives ≡ a.archives
      → Did (On s (left_by ((seen a).sessions s).rest.resume_id moment) ∷ At w (Close (conn_of (line_of w a.table)) cause) ∷ []) 0 a
      (record r { table = b; answers = with_item r.answers w now })
  close_did b c now cause was is empty r same kept hosts files =
      let l : stage.Line = Over (conn_of (line_of w a.table)) cause in
      let all : b ≡ with_line w l (changed s (released moment) a.table) = is ∙ ap (line_ended w cause) was in
      subst (λ z. Did (On s (left_by ((seen a).sessions s).rest.resume_id moment) ∷ At w (Close (conn_of (line_of w a.table)) cause) ∷ []) 0 a
      (record r { table = b; answers = with_item r.answers w now; book = z })) (sym kept)
      (subst (λ z. Did (On s (left_by ((seen a).sessions s).rest.resume_id moment) ∷ At w (Close (conn_of (line_of w a.table)) cause) ∷ []) 0 a
      (record r { table = b; answers = with_item r.answers w now; book = a.book; rooms = z })) (sym hosts)
      (subst (λ z. Did (On s (left_by ((seen a).sessions s).rest.resume_id moment) ∷ At w (Close (conn_of (line_of w a.table)) cause) ∷ []) 0 a
      (record r { table = b; answers = with_item r.answers w now; book = a.book; rooms = a.rooms; archives = z })) (sym files)
      (left_did l (record r { table = b; answers = with_item r.answers w now; book = a.book; rooms = a.rooms; archives = a.archives })
      (At w (Close (conn_of (line_of w a.table)) cause)) 0
      (λ d n e. (cc)) (λ d n e. (cc))
      (ap (λ (t : TableRecord). t.lines) all) (ap (λ (t : TableRecord). t.sessions) all) (ap (λ (t : TableRecord). t.made) all)
      (subst (λ (t : TableRecord). t.opened ≤ a.table.opened + 0) (sym all) (omega arith))
      (ap (λ (xs : List (List Answer)). length (set xs w now)) (ap (λ v. v.items) same) ∙ length-set a.answers.items w now) book_same
      ((λ i. world_of (all i) (set (same i).items w (empty i)) a.book.book a.rooms (archives_of a.archives)) ∙ left_world l))))

  pub open_did : (b c : TableRecord) (n : ℕ) (now : List Answer) → c ≡ changed s (released moment) a.table → b ≡ with_conn w n c → n ≡ a.table.opened + 1
      → now ≡ [] → (r : code.World) → r.answers ≡ a.answers → r.book ≡ a.book → r.rooms ≡ a.rooms → r.archives ≡ a.archives
      → Did (On s (left_by ((seen a).sessions s).rest.resume_id moment) ∷ Open w ∷ []) 1 a (record r { table = b; answers = with_item r.answers w now })
  open_did b c n now was is number empty r same kept hosts files =
      let all : b ≡ with_conn w (a.table.opened + 1) (changed s (released moment) a.table) = is ∙ (λ i. with_conn w (number i) (was i)) in
      subst (λ z. Did (On s (left_by ((seen a).sessions s).rest.resume_id moment) ∷ Open w ∷ []) 1 a
      (record r { table = b; answers = with_item r.answers w now; book = z })) (sym kept)
      (subst (λ z. Did (On s (left_by ((seen a).sessions s).rest.resume_id moment) ∷ Open w ∷ []) 1 a
      (record r { table = b; answers = with_item r.answers w now; book = a.book; rooms = z })) (sym hosts)
      (subst (λ z. Did (On s (left_by ((seen a).sessions s).rest.resume_id moment) ∷ Open w ∷ []) 1 a
      (record r { table = b; answers = with_item r.answers w now; book = a.book; rooms = a.rooms; archives = z })) (sym files)
      (left_did (Fresh (a.table.opened + 1))
      (record r { table = b; answers = with_item r.answers w now; book = a.book; rooms = a.rooms; archives = a.archives }) (Open w) 1
      (λ d n e. (cc)) (λ d n e. (cc))
      (ap (λ (t : TableRecord). t.lines) all) (ap (λ (t : TableRecord). t.sessions) all) (ap (λ (t : TableRecord). t.made) all)
      (subst (λ (t : TableRecord). t.opened ≤ a.table.opened + 1) (sym all) (omega arith))
      (ap (λ (xs : List (List Answer)). length (set xs w now)) (ap (λ v. v.items) same) ∙ length-set a.answers.items w now) book_same
      ((λ i. world_of (all i) (set (same i).items w (empty i)) a.book.book a.rooms (archives_of a.archives))
      ∙ (λ i. record (left_world (Fresh (a.table.opened + 1)) i) { opened = a.table.opened + 1 })))))

-- a change that is the same for the session that is there
same_change : (s : ℕ) (f g : SessionRecord → SessionRecord) (t : TableRecord) (x : SessionRecord) → Rises 0 t.sessions t.made
    → session_of s t ≡ Some x → f x ≡ g x → changed s f t ≡ changed s g t
same_change s f g t x rises at same =
    sym (with_session_changed s f t x rises at) ∙ (ap (with_session s t) same ∙ with_session_changed s g t x rises at)

by_some : (o : Option ResumeId) (moment : ℕ) (x : SessionRecord) → is_some o ≡ true → left_until (moment + patience) x ≡ released_by o moment x
by_some None moment x is = cc
by_some (Some id) moment x is = refl

by_none : (o : Option ResumeId) (moment : ℕ) (x : SessionRecord) → is_some o ≡ false → ended Lost x ≡ released_by o moment x
by_none None moment x is = refl
by_none (Some id) moment x is = cc

pub released_some : (s moment : ℕ) (t : TableRecord) (x : SessionRecord) → Rises 0 t.sessions t.made → session_of s t ≡ Some x
    → is_some x.resume_id ≡ true → changed s (left_until (moment + patience)) t ≡ changed s (released moment) t
released_some s moment t x rises at is =
    same_change s (left_until (moment + patience)) (released moment) t x rises at (by_some x.resume_id moment x is)

pub released_none : (s moment : ℕ) (t : TableRecord) (x : SessionRecord) → Rises 0 t.sessions t.made → session_of s t ≡ Some x
    → is_some x.resume_id ≡ false → changed s (ended Lost) t ≡ changed s (released moment) t
released_none s moment t x rises at is =
    same_change s (ended Lost) (released moment) t x rises at (by_none x.resume_id moment x is)
