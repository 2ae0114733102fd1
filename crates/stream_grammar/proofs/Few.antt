-- A byte tells one token at most, or words.
use Rattle.std.proofs.Common.{◌≡◌, ℕ, List, [], ◌∷◌, refl, subst, Bool, true, false, ◌&&◌, ◌==◌, nat_lt}
use Rattle.std.proofs.lemmas.Bool.{cond_both}
use Rattle.stream_lex.specs.declared.Token.{Token}
use Rattle.stream_lex.specs.declared.Token.TheVariants as token
use Rattle.stream_lex.specs.declared.kinds.Kind.TheVariants as kinds
use Rattle.stream_lex.specs.declared.stages.Stage.{Stage}
use Rattle.stream_lex.specs.declared.stages.State.{State}
use Rattle.stream_lex.specs.declared.characters.Pending.{Pending}
use Rattle.stream_lex.specs.declared.characters.Reach.{Reach}
use Rattle.stream_lex.specs.declared.characters.Reach.TheVariants.{Whole, Begun, Broken}
use Rattle.stream_lex.specs.grammar.Classes.{has_between, class_of}
use Rattle.stream_lex.specs.grammar.Kinds.{ascii_kind}
use Rattle.stream_lex.specs.machine.Characters.{is_nothing, reach}
use Rattle.stream_lex.specs.machine.Machine.{Turn, goes, stops, ascii, allowed_at, through}
use Rattle.stream_lex.specs.machine.Machine.{yields as tells_and_goes}
use Rattle.stream_lex.specs.machine.Turns.{Outcome, leads, fails, at, settled, turn_ascii, turn_wide, turn}
use Rattle.stream_lex.proofs.Lists.{false-true}
use Rattle.stream_grammar.specs.machine.Telling.{are_words, is_few}
use Rattle.stream_grammar.specs.machine.Sorts.{Sort, at_begin, at_prolog, at_content, at_name, at_tag, at_attribute}
use Rattle.stream_grammar.specs.machine.Sorts.{at_value, at_ending, sort}
use Rattle.stream_grammar.proofs.Sorts.{may_move, turn_moves, moves-ascii}
use Rattle.stream_grammar.specs.machine.Sorts.{sort_of}
use Rattle.stream_grammar.proofs.Moving.{voiced}

words-are : (us : List Token) (y : Sort) → may_move at_content us at_content ≡ true → are_words us ≡ true
words-are [] y h = refl
words-are (token.Word c ∷ us) y h = words-are us y h
words-are (u ∷ []) y h = false-true h
words-are (u ∷ v ∷ us) y h = false-true h

few-move : (x : Sort) (us : List Token) (y : Sort) → may_move x us y ≡ true → is_few us ≡ true
few-move x [] y h = refl
few-move x (u ∷ []) y h = refl
few-move at_content (u ∷ v ∷ us) at_content h = words-are (u ∷ v ∷ us) at_content h
few-move at_content (token.Word c ∷ v ∷ us) at_begin h = false-true h
few-move at_content (u ∷ v ∷ us) at_begin h = false-true h
few-move at_content (token.Word c ∷ v ∷ us) at_prolog h = false-true h
few-move at_content (u ∷ v ∷ us) at_prolog h = false-true h
few-move at_content (token.Word c ∷ v ∷ us) at_name h = false-true h
few-move at_content (u ∷ v ∷ us) at_name h = false-true h
few-move at_content (token.Word c ∷ v ∷ us) at_tag h = false-true h
few-move at_content (u ∷ v ∷ us) at_tag h = false-true h
few-move at_content (token.Word c ∷ v ∷ us) at_attribute h = false-true h
few-move at_content (u ∷ v ∷ us) at_attribute h = false-true h
few-move at_content (token.Word c ∷ v ∷ us) at_value h = false-true h
few-move at_content (u ∷ v ∷ us) at_value h = false-true h
few-move at_content (token.Word c ∷ v ∷ us) at_ending h = false-true h
few-move at_content (u ∷ v ∷ us) at_ending h = false-true h
few-move at_begin (token.TagOpens b ∷ v ∷ us) y h = false-true h
few-move at_begin (u ∷ v ∷ us) y h = false-true h
few-move at_prolog (token.TagOpens b ∷ v ∷ us) y h = false-true h
few-move at_prolog (u ∷ v ∷ us) y h = false-true h
few-move at_name (token.NameByte b ∷ v ∷ us) y h = false-true h
few-move at_name (u ∷ v ∷ us) y h = false-true h
few-move at_tag (token.AttrOpens b ∷ v ∷ us) y h = false-true h
few-move at_tag (u ∷ v ∷ us) y h = false-true h
few-move at_attribute (token.AttrByte b ∷ v ∷ us) y h = false-true h
few-move at_attribute (u ∷ v ∷ us) y h = false-true h
few-move at_value (token.Value c ∷ v ∷ us) y h = false-true h
few-move at_value (u ∷ v ∷ us) y h = false-true h
few-move at_ending (token.NameByte b ∷ v ∷ us) y h = false-true h
few-move at_ending (u ∷ v ∷ us) y h = false-true h

abbrev Few : Outcome → Type 0
Few (leads to us) = is_few us ≡ true
Few (fails f) = Unit {0}

few-settled : (x : Sort) (r : Bool) (t : Turn) → turn_moves x t ≡ true → Few (settled r t)
few-settled x r (goes t) h = refl
few-settled x r (tells_and_goes us t) h = few-move x us (sort t) h
few-settled x r (stops f) h = tt

few-ascii : (st : State) (b : ℕ) → Few (turn_ascii st b)
unfolding turn_ascii ascii_kind
few-ascii st b =
    cond_both (st.returned && b == 10) _ _ Few (λ e. refl)
    (λ f. cond_both (b == 13) _ _ Few (λ e. few-settled (sort st.stage) true (ascii st.stage kinds.Space 10) (moves-ascii st.stage kinds.Space 10).0)
    (λ g. few-settled (sort st.stage) false (ascii st.stage (ascii_kind b) b) (moves-ascii st.stage (ascii_kind b) b).0))

few-wide : (s : Stage) (p : Pending) (r : Bool) (b : ℕ) (x : Reach) → Few (turn_wide (at s p r) b x)
unfolding turn_wide
few-wide s p r b (Begun q low high) =
    cond_both (has_between (class_of (allowed_at s)) low high) _ _ Few
    (λ e. few-move (sort_of (at s p r)) _ (sort (through s)) (voiced s p r b low high 0 e).0.0) (λ e. tt)
few-wide s p r b (Whole n) =
    cond_both (has_between (class_of (allowed_at s)) n n) _ _ Few (λ e. few-move (sort_of (at s p r)) _ (sort (through s)) (voiced s p r b n n n e).1.0)
    (λ e. tt)
few-wide s p r b Broken = tt

few : (st : State) (b : ℕ) → Few (turn st b)
few st b =
    cond_both (is_nothing st.pending && nat_lt b 128) (turn_ascii st b) (turn_wide st b (reach st.pending b)) Few (λ e. few-ascii st b)
    (λ e. few-wide st.stage st.pending st.returned b (reach st.pending b))

pub turn-few : (st to : State) (b : ℕ) (us : List Token) → turn st b ≡ leads to us → is_few us ≡ true
turn-few st to b us e = let h : Few (leads to us) = subst Few e (few st b) in h
