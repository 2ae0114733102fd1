-- What a world is, where a line changes that no session holds.
use Rattle.std.proofs.Common.{◌≡◌, inl, inr, ℕ, ◌+◌, ◌<◌, ◌≤◌, List, [], ◌∷◌, length, set, refl, sym, ap, subst, ◌∙◌, arith}
use Rattle.std.proofs.lemmas.List.{length-set}
use Rattle.std.specs.Vec.{with_item}
use Rattle.sm_resume.specs.declared.decision.Cause.{Cause}
use Rattle.session_table.specs.declared.line.Line as stage
use Rattle.session_table.specs.declared.line.Line.TheVariants.{Empty, Fresh, Logged, Over}
use Rattle.session_table.specs.Tables.{TableRecord, conn_of, line_of, with_line, with_conn, line_ended}
use Rattle.archive_table.specs.Tables.{archives_of}
use Rattle.house_model.specs.declared.answer.Answer.{Answer}
use Rattle.house_model.specs.Numbered.{put}
use Rattle.house_model.specs.Traffic.{brief}
use Rattle.house_model.specs.Effects.{Effect, At, Open, Leave, Close, apply}
use Rattle.house_world.specs.declared.world.World as code
use Rattle.house_world.specs.Views.{lines_of, world_of}
use Rattle.house_world.specs.Wholes.{IsFreeLine, IsTied, IsFew}
use Rattle.house_world.specs.Worlds.{seen, Did}
use Rattle.house_world.proofs.ReadLemmas.{sessions_line, lines_put, place_set}
use Rattle.house_world.proofs.TiedLemmas.{IsUnbound, tied_line}
use Rattle.house_world.proofs.BookLemmas.{book_same}

module _ (a : code.World) (w : ℕ) (tied : IsTied a.table) (low : w < length a.table.lines)
    (answered : length a.answers.items ≡ length a.table.lines) (free : IsFreeLine w a.table) where
  free_world : (l : stage.Line) → world_of (with_line w l a.table) (set a.answers.items w []) a.book.book a.rooms (archives_of a.archives)
      ≡ record (seen a) { lines = put w (record { stage = l; answers = [] }) (lines_of a.table a.answers.items) }
  free_world l = λ i. record {
    opened = a.table.opened;
    book = a.book.book;
    rooms = a.rooms;
    archives = archives_of a.archives;
    lines = lines_put a.table a.answers.items w l [] low (omega (arith, low, answered)) i;
    made = a.table.made;
    sessions = sessions_line a.table w l low (λ n y at live holder. absurd (free n y at holder)) i;
  }

  free_known : (many : ℕ) (l : stage.Line) → ((d u : ℕ) → l ≡ Logged d u → ⊥)
      → ((v d u : ℕ) → line_of v a.table ≡ Logged d u → u < many)
      → (v d u : ℕ) → line_of v (with_line w l a.table) ≡ Logged d u → u < many
  free_known many l unlogged users v d u at = elim (place_set a.table.lines w v l Empty low) [
    | inl p ↦ absurd (unlogged d u (sym p.1 ∙ at))
    | inr p ↦ users v d u (sym p.1 ∙ at)
  ]

  free_few : (n m opened : ℕ) (l : stage.Line) → IsFew n a.table → n ≤ m → opened ≤ m → IsFew m (with_line w l (record a.table { opened = opened }))
  free_few n m opened l few less low' = record {
    opened = low';
    made = omega (arith, few.made, less);
    sent = λ k z is. (let old = few.sent k z is in omega (arith, old, less));
    acted = λ k z is. (let old = few.acted k z is in omega (arith, old, less));
  }

  free_did : (l : stage.Line) (b : TableRecord) (now : List Answer) (e : Effect) (more opened : ℕ) → IsUnbound l → ((d u : ℕ) → l ≡ Logged d u → ⊥)
      → opened ≤ a.table.opened + more
      → b ≡ with_line w l (record a.table { opened = opened }) → now ≡ []
      → record (record (seen a) { lines = put w (record { stage = l; answers = [] }) (lines_of a.table a.answers.items) }) { opened = opened }
      ≡ apply brief (seen a) e
      → Did (e ∷ []) more a (record a { table = b; answers = with_item a.answers w now })
  free_did l b now e more opened unbound unlogged number is empty effect =
      subst (λ (t : TableRecord). Did (e ∷ []) more a (record a { table = t; answers = with_item a.answers w now })) (sym is)
      (record {
        world =
            (λ i. record (world_of (with_line w l a.table) (set a.answers.items w (empty i)) a.book.book a.rooms (archives_of a.archives)) { opened = opened })
            ∙ ((λ i. record (free_world l i) { opened = opened }) ∙ effect);
        tied = (let old = tied_line w l a.table tied low free unbound in record { bound = old.bound; holds = old.holds; each = old.each });
        known = λ many users. free_known many l unlogged users;
        few = λ turns few. free_few turns (turns + more) opened l few (omega arith) (omega (arith, number, few.opened));
        lines = length-set a.table.lines w l;
        answered = length-set a.answers.items w now;
        kept = book_same;
      })

  pub left_free : (b : TableRecord) (now : List Answer) → b ≡ with_line w Empty a.table → now ≡ []
      → Did (At w Leave ∷ []) 0 a (record a { table = b; answers = with_item a.answers w now })
  left_free b now is empty = free_did Empty b now (At w Leave) 0 a.table.opened (λ d n e. (cc)) (λ d n e. (cc)) (omega arith) is empty refl

  pub closed_free : (b : TableRecord) (now : List Answer) (cause : Cause) → b ≡ line_ended w cause a.table → now ≡ []
      → Did (At w (Close (conn_of (line_of w a.table)) cause) ∷ []) 0 a (record a { table = b; answers = with_item a.answers w now })
  closed_free b now cause is empty =
      free_did (Over (conn_of (line_of w a.table)) cause) b now (At w (Close (conn_of (line_of w a.table)) cause)) 0 a.table.opened
      (λ d n e. (cc)) (λ d n e. (cc)) (omega arith) is empty refl

  pub opened_free : (b : TableRecord) (n : ℕ) (now : List Answer) → b ≡ with_conn w n a.table → n ≡ a.table.opened + 1 → now ≡ []
      → Did (Open w ∷ []) 1 a (record a { table = b; answers = with_item a.answers w now })
  opened_free b n now is number empty =
      free_did (Fresh (a.table.opened + 1)) b now (Open w) 1 (a.table.opened + 1)
      (λ d m e. (cc)) (λ d m e. (cc)) (omega arith) (is ∙ ap (λ k. with_conn w k a.table) number) empty refl
