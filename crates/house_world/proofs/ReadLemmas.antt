-- What is seen of lines and sessions by number, where one of them changes.
use Rattle.std.proofs.Common.{◌≡◌, ◌⊎◌, inl, inr, ℕ, zero, suc, ◌<◌, cond, nat_eq, Bool, List, [], ◌∷◌, length}
use Rattle.std.proofs.Common.{get_or, set, Option, Some, None, refl, sym, ap, ◌∙◌, arith}
use Rattle.std.proofs.lemmas.Bool.{eq-eqb, ne_eqb}
use Rattle.std.proofs.lemmas.Bool.Decides.{eqb_tells}
use Rattle.std.proofs.lemmas.List.{get_or-set_same, get_or-set_other}
use Rattle.std.specs.Map.{lookup}
use Rattle.std.specs.Option.{option_map}
use Rattle.session_table.specs.declared.life.Life.{Life}
use Rattle.session_table.specs.declared.life.Life.TheVariants.{Live, Over}
use Rattle.session_table.specs.declared.line.Line as stage
use Rattle.session_table.specs.declared.line.Line.TheVariants.{Empty}
use Rattle.session_table.specs.Sessions.{SessionRecord}
use Rattle.session_table.specs.Tables.{TableRecord, conn_of, line_of, session_of, changed, with_line}
use Rattle.session_table.proofs.NumberLemmas.{lookup_changed}
use Rattle.house_model.specs.declared.answer.Answer.{Answer}
use Rattle.house_model.specs.Numbered.{put}
use Rattle.house_model.specs.Sessions.{Hold, Held, Away, session}
use Rattle.house_model.specs.States.{Line}
use Rattle.house_model.proofs.PutLemmas.{put_is}
use Rattle.archive_table.specs.Archives.{Archives}
use Rattle.contact_table.specs.Books.{Book}
use Rattle.muc_service.specs.Rooms.{Rooms}
use Rattle.house_world.specs.Views.{hold_by, traffic_of, rest_of, session_by, sessions_of, lines_of, world_of}

-- a place of a list
pub place_set : {A : Type 0} (xs : List A) (w x : ℕ) (v d : A) → w < length xs
    → ((x ≡ w) × (get_or (set xs w v) x d ≡ v)) ⊎ ((x ≡ w → ⊥) × (get_or (set xs w v) x d ≡ get_or xs x d))
place_set xs w x v d low = elim (eqb_tells x w) [
  | inl p ↦ inl (p.1, ap (λ k. get_or (set xs w v) k d) p.1 ∙ get_or-set_same xs w v d low)
  | inr p ↦ inr (p.1, get_or-set_other xs w x v d p.1)
]

-- an element that is there, whatever is read beyond the list
pub read_there : {A : Type 0} (xs : List A) (i : ℕ) (d e : A) → i < length xs → get_or xs i d ≡ get_or xs i e
read_there [] i d e low = absurd (omega (arith, low))
read_there (x ∷ xs) zero d e low = refl
read_there (x ∷ xs) (suc i) d e low = read_there xs i d e (omega (arith, low))

-- a line that changes, with its answers
line_at : (ls : List stage.Line) (answers : List (List Answer)) (w x : ℕ) (l : stage.Line) (a : List Answer)
    → w < length ls → w < length answers
    → ◌≡◌ {A = Line} (record { stage = get_or (set ls w l) x Empty; answers = get_or (set answers w a) x [] })
    (put w (record { stage = l; answers = a }) (λ (y : ℕ). record { stage = get_or ls y Empty; answers = get_or answers y [] }) x)
line_at ls answers w x l a low here =
    elim (put_is {A = Line} w (record { stage = l; answers = a }) (λ (y : ℕ). record { stage = get_or ls y Empty; answers = get_or answers y [] }) x) [
      | inl p ↦
          (λ i. record {
            stage = (ap (λ k. get_or (set ls w l) k Empty) p.0 ∙ get_or-set_same ls w l Empty low) i;
            answers = (ap (λ k. get_or (set answers w a) k []) p.0 ∙ get_or-set_same answers w a [] here) i;
          }) ∙ sym p.1
      | inr p ↦
          (λ i. record {
            stage = get_or-set_other ls w x l Empty p.0 i;
            answers = get_or-set_other answers w x a [] p.0 i;
          }) ∙ sym p.1
    ]

pub lines_put : (t : TableRecord) (answers : List (List Answer)) (w : ℕ) (l : stage.Line) (a : List Answer)
    → w < length t.lines → w < length answers
    → lines_of (with_line w l t) (set answers w a) ≡ put w (record { stage = l; answers = a }) (lines_of t answers)
lines_put t answers w l a low here = λ i x. line_at t.lines answers w x l a low here i

-- the stage alone
stage_at : (ls : List stage.Line) (answers : List (List Answer)) (w x : ℕ) (l : stage.Line) → w < length ls
    → ◌≡◌ {A = Line} (record { stage = get_or (set ls w l) x Empty; answers = get_or answers x [] })
    (put w (record { stage = l; answers = get_or answers w [] }) (λ (y : ℕ). record { stage = get_or ls y Empty; answers = get_or answers y [] }) x)
stage_at ls answers w x l low =
    elim (put_is {A = Line} w (record { stage = l; answers = get_or answers w [] })
    (λ (y : ℕ). record { stage = get_or ls y Empty; answers = get_or answers y [] }) x) [
      | inl p ↦
          (λ i. record {
            stage = (ap (λ k. get_or (set ls w l) k Empty) p.0 ∙ get_or-set_same ls w l Empty low) i;
            answers = get_or answers (p.0 i) [];
          }) ∙ sym p.1
      | inr p ↦
          (λ i. record { stage = get_or-set_other ls w x l Empty p.0 i; answers = get_or answers x [] }) ∙ sym p.1
    ]

pub lines_staged : (t : TableRecord) (answers : List (List Answer)) (w : ℕ) (l : stage.Line) → w < length t.lines
    → lines_of (with_line w l t) answers ≡ put w (record { stage = l; answers = get_or answers w [] }) (lines_of t answers)
lines_staged t answers w l low = λ i x. stage_at t.lines answers w x l low i

-- the answers alone
said_at : (ls : List stage.Line) (answers : List (List Answer)) (w x : ℕ) (a : List Answer) → w < length answers
    → ◌≡◌ {A = Line} (record { stage = get_or ls x Empty; answers = get_or (set answers w a) x [] })
    (put w (record { stage = get_or ls w Empty; answers = a }) (λ (y : ℕ). record { stage = get_or ls y Empty; answers = get_or answers y [] }) x)
said_at ls answers w x a low =
    elim (put_is {A = Line} w (record { stage = get_or ls w Empty; answers = a })
    (λ (y : ℕ). record { stage = get_or ls y Empty; answers = get_or answers y [] }) x) [
      | inl p ↦
          (λ i. record {
            stage = get_or ls (p.0 i) Empty;
            answers = (ap (λ k. get_or (set answers w a) k []) p.0 ∙ get_or-set_same answers w a [] low) i;
          }) ∙ sym p.1
      | inr p ↦
          (λ i. record { stage = get_or ls x Empty; answers = get_or-set_other answers w x a [] p.0 i }) ∙ sym p.1
    ]

pub lines_said : (t : TableRecord) (answers : List (List Answer)) (w : ℕ) (a : List Answer) → w < length answers
    → lines_of t (set answers w a) ≡ put w (record { stage = line_of w t; answers = a }) (lines_of t answers)
lines_said t answers w a low = λ i x. said_at t.lines answers w x a low i

-- a session that is held by a connection
pub held_is : (l : Life) (h : Option ℕ) (ls : List stage.Line) (w : ℕ) → l ≡ Live → h ≡ Some w
    → hold_by l h ls ≡ Held w (conn_of (get_or ls w Empty))
held_is l h ls w live at = (λ i. hold_by (live i) (at i) ls)

pub away_is : (l : Life) (h : Option ℕ) (ls : List stage.Line) → l ≡ Live → h ≡ None → hold_by l h ls ≡ Away
away_is l h ls live none = (λ i. hold_by (live i) (none i) ls)

pub seen_with : (x : SessionRecord) (ls : List stage.Line) (m : Hold) → hold_by x.state x.holder ls ≡ m
    → session_by ls (Some x) ≡ session x.counts m (traffic_of x) (rest_of x)
seen_with x ls m is = ap (λ (n : Hold). session x.counts n (traffic_of x) (rest_of x)) is

-- a session that changes under its number
changed_at : (es : List (ℕ × SessionRecord)) (ls : List stage.Line) (f : SessionRecord → SessionRecord) (s n : ℕ) (x : SessionRecord)
    → lookup (nat_eq s) es ≡ Some x
    → session_by ls (cond (nat_eq s n) (option_map f (lookup (nat_eq n) es)) (lookup (nat_eq n) es))
    ≡ put s (session_by ls (Some (f x))) (λ (k : ℕ). session_by ls (lookup (nat_eq k) es)) n
changed_at es ls f s n x at =
    elim (put_is s (session_by ls (Some (f x))) (λ (k : ℕ). session_by ls (lookup (nat_eq k) es)) n) [
      | inl p ↦
          ap (λ (b : Bool). session_by ls (cond b (option_map f (lookup (nat_eq n) es)) (lookup (nat_eq n) es))) (eq-eqb s n (sym p.0))
          ∙ (ap (λ (k : ℕ). session_by ls (option_map f (lookup (nat_eq k) es))) p.0
          ∙ ap (λ (o : Option SessionRecord). session_by ls (option_map f o)) at)
          ∙ sym p.1
      | inr p ↦
          ap (λ (b : Bool). session_by ls (cond b (option_map f (lookup (nat_eq n) es)) (lookup (nat_eq n) es))) (ne_eqb s n (λ e. p.0 (sym e)))
          ∙ sym p.1
    ]

pub sessions_put : (t : TableRecord) (f : SessionRecord → SessionRecord) (s : ℕ) (x : SessionRecord) → session_of s t ≡ Some x
    → sessions_of (changed s f t) ≡ put s (session_by t.lines (Some (f x))) (sessions_of t)
sessions_put t f s x at = λ i n.
    (ap (session_by t.lines) (lookup_changed s n f t.sessions) ∙ changed_at t.sessions t.lines f s n x at) i

-- the world, where answers of one line change
pub world_said : (t : TableRecord) (answers : List (List Answer)) (k : Book) (rooms : Rooms) (kept : Archives) (w : ℕ) (a b : List Answer)
    → w < length answers → a ≡ b → world_of t (set answers w a) k rooms kept
    ≡ record (world_of t answers k rooms kept) { lines = put w (record { stage = line_of w t; answers = b }) (lines_of t answers) }
world_said t answers k rooms kept w a b low same =
    (λ i. record (world_of t answers k rooms kept) { lines = lines_said t answers w a low i })
    ∙ ap (λ (xs : List Answer). record (world_of t answers k rooms kept) {
      lines = put w (record { stage = line_of w t; answers = xs }) (lines_of t answers);
    }) same

-- sessions, where a line changes: its connection is the same, or none of them goes on there
hold_line : (l : Life) (h : Option ℕ) (ls : List stage.Line) (w : ℕ) (line : stage.Line) → w < length ls
    → (l ≡ Live → h ≡ Some w → conn_of line ≡ conn_of (get_or ls w Empty)) → hold_by l h (set ls w line) ≡ hold_by l h ls
hold_line (Over cause) h ls w line low same = refl
hold_line Live None ls w line low same = refl
hold_line Live (Some v) ls w line low same = elim (place_set ls w v line Empty low) [
  | inl p ↦ ap (λ c. Held v c) (ap conn_of p.1 ∙ (same refl (ap Some p.0) ∙ ap (λ k. conn_of (get_or ls k Empty)) (sym p.0)))
  | inr p ↦ ap (λ (y : stage.Line). Held v (conn_of y)) p.1
]

session_line : (o : Option SessionRecord) (ls : List stage.Line) (w : ℕ) (line : stage.Line) → w < length ls
    → ((x : SessionRecord) → o ≡ Some x → x.state ≡ Live → x.holder ≡ Some w → conn_of line ≡ conn_of (get_or ls w Empty))
    → session_by (set ls w line) o ≡ session_by ls o
session_line None ls w line low same = refl
session_line (Some x) ls w line low same =
    ap (λ (m : Hold). session x.counts m (traffic_of x) (rest_of x)) (hold_line x.state x.holder ls w line low (same x refl))

pub sessions_line : (t : TableRecord) (w : ℕ) (line : stage.Line) → w < length t.lines
    → ((s : ℕ) (x : SessionRecord) → session_of s t ≡ Some x → x.state ≡ Live → x.holder ≡ Some w → conn_of line ≡ conn_of (line_of w t))
    → sessions_of (with_line w line t) ≡ sessions_of t
sessions_line t w line low same = λ i n. session_line (session_of n t) t.lines w line low (same n) i
