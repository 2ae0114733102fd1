-- The frame is at its end exactly where the bytes are a stream.
use Rattle.std.proofs.Common.{◌≡◌, ℕ, List, [], ◌++◌, refl, sym, subst, append-nil, true, false}
use Rattle.stream_lex.specs.declared.stages.State.{State}
use Rattle.stream_lex.specs.grammar.Expressions.{all_said}
use Rattle.stream_lex.specs.machine.Leading.{Left}
use Rattle.stream_lex.proofs.Lists.{nil_parts, said-same}
use Rattle.stream_lex.proofs.Ended.{left-done}
use Rattle.stream_grammar.specs.declared.rules.Rules.{Rules}
use Rattle.stream_grammar.specs.grammar.Trees.{Stream}
use Rattle.stream_grammar.specs.grammar.Streams.{Spells}
use Rattle.stream_grammar.specs.machine.Nesting.{Nest}
use Rattle.stream_grammar.specs.machine.Framing.{Frame, open_at, ended, broken, frame_after, first_frame, has_ended}
use Rattle.stream_grammar.proofs.Following.{leaves-nothing, Over, Follows, IsSound, Sound, after-sound, after-to, after-from}
use Rattle.stream_grammar.proofs.Whole.{first-sound, spells-follows, follows-spells}

pub ended-spells : (r : Rules) (bytes : List ℕ) → frame_after r first_frame bytes ≡ ended → (s : Stream) × Spells r bytes s
ended-spells r bytes e =
    subst (λ (l : List ℕ). (s : Stream) × Spells r l s) (append-nil bytes)
    (follows-spells r (bytes ++ []) (after-from r first_frame bytes [] (first-sound r) (subst (λ (f : Frame). Follows r f []) (sym e) tt)))

-- an open frame leaves something
open-more : (r : Rules) (st : State) (n : Nest) → IsSound r st n → Over r st n [] → ⊥
open-more r st n k (text, after, ts, e, sp, l, m, t) =
    let none : text ≡ [] = (nil_parts text after (sym e)).0 in
    leaves-nothing r n ts k.opens m (said-same ts [] (left-done st (all_said ts) k.live (subst (λ (x : List ℕ). Left st x (all_said ts)) none l)))

follows-ended : (r : Rules) (f : Frame) → Sound r f → Follows r f [] → has_ended f ≡ true
follows-ended r (open_at st n) k x = absurd (open-more r st n k x)
follows-ended r ended k x = refl
follows-ended r broken k x = absurd x

pub spells-ended : (r : Rules) (bytes : List ℕ) (s : Stream) → Spells r bytes s → has_ended (frame_after r first_frame bytes) ≡ true
spells-ended r bytes s h =
    follows-ended r (frame_after r first_frame bytes) (after-sound r first_frame bytes (first-sound r))
    (after-to r first_frame bytes [] (first-sound r) (subst (Follows r first_frame) (sym (append-nil bytes)) (spells-follows r bytes s h)))

is-ended : (f : Frame) → has_ended f ≡ true → f ≡ ended
is-ended ended e = refl
is-ended broken e = absurd (let bad : false ≡ true = e in cc)
is-ended (open_at st n) e = absurd (let bad : false ≡ true = e in cc)

pub ended-is : (r : Rules) (bytes : List ℕ) → has_ended (frame_after r first_frame bytes) ≡ true → (s : Stream) × Spells r bytes s
ended-is r bytes e = ended-spells r bytes (is-ended (frame_after r first_frame bytes) e)
