-- What clap makes of the positional words of a command.
use Rattle.std.proofs.Common.{◌≡◌, ℕ, ◌==◌, ◌&&◌, List, [], ◌∷◌, true, false, true≢false, Some, None, codes, bytes_eq, is_some, refl, sym, ap, ap₂, ◌∙◌}
use Rattle.std.specs.Option.{option_and_then, option_map_or}
use Rattle.std.proofs.lemmas.Bool.{cond-false}
use Rattle.clap.specs.Faults.{bundle_fault, check_fault, defaults_fault, entered_fault, fault_of, flag_word_fault}
use Rattle.clap.specs.Faults.{settle_fault, step_fault, turn_fault, walk_fault, word_fault}
use Rattle.clap.specs.Kinds.{Kinds, or_else}
use Rattle.clap.specs.Lexer.{long_of, long_of_rest, short_of, short_of_rest, strip_byte}
use Rattle.clap.specs.Simple.{App, Shape, built, entered, is_simple, matches_of}
use Rattle.clap.specs.Walk.{Held, Rule, Step, Walk, after_step, arg_by_index, first_of, finished, idle, long_or_other}
use Rattle.clap.specs.Walk.{nothing_held, settled, short_or_plain, to_positional, trailing, value, walked, word_met}
use Rattle.clap.specs.Words.{is_simple_and_free}
use Rattle.clap.specs.declared.error.kind.ErrorKind.TheVariants.{UnknownArgument, MissingRequiredArgument}
use Rattle.clap.proofs.OnLiterals.{clap_on_literals}
use Rattle.serve_words.specs.Grammars.{bare}
use Rattle.serve_words.specs.Options.{is_value}
use Rattle.commands.specs.Grammars.{pair_grammar}
use Rattle.commands.proofs.Conjunctions.{not-true}

-- such a word is no option and not `--`
record IsPlain (word : List ℕ) : Type 0 where
  other : bytes_eq word (45 ∷ 45 ∷ []) ≡ false
  long : long_of word ≡ None
  short : short_of word ≡ None

plain : (word : List ℕ) → is_value word ≡ true → IsPlain word
plain [] p = absurd (true≢false (sym p))
plain (b ∷ bs) p =
    let e = not-true (b == 45) p in
    let none : strip_byte 45 (b ∷ bs) ≡ None = cond-false (b == 45) (Some bs) None e in
    record {
      other = ap (λ t. t && bytes_eq bs (45 ∷ [])) e;
      long = ap (λ o. option_and_then long_of_rest (option_and_then (strip_byte 45) o)) none;
      short = ap (option_and_then short_of_rest) none;
    }

-- it goes to the positional whose turn it is
abbrev at : ℕ → Held → Walk
at position h = record { held = h; waiting = idle; position = position; is_trailing = false; stopped = None }

met : (c : List Rule) (position : ℕ) (word : List ℕ) (h : Held) → is_value word ≡ true → word_met c [] false idle position word h ≡ (h, value)
met c position word h p =
    let o = plain word p in
    cond-false (bytes_eq word (45 ∷ 45 ∷ [])) (h, trailing position) (long_or_other c idle word (long_of word) h) o.other
    ∙ ap (λ l. long_or_other c idle word l h) o.long ∙ ap (λ s. short_or_plain c idle word s h) o.short

faultless : (s : Shape) (word : List ℕ) (h : Held) → is_value word ≡ true → word_fault s [] false idle word h ≡ []
faultless s word h p =
    let o = plain word p in
    cond-false (bytes_eq word (45 ∷ 45 ∷ [])) [] (flag_word_fault s.rules s.args_override_self (long_of word) word h) o.other
    ∙ ap (λ l. flag_word_fault s.rules s.args_override_self l word h) o.long
    ∙ ap (λ f. option_map_or (λ flags. bundle_fault s.rules s.args_override_self flags h) f []) o.short

turn-fault : (s : Shape) (position : ℕ) (word : List ℕ) (h : Held) → is_value word ≡ true → turn_fault s [] (at position h) word ≡ step_fault s position h value
turn-fault s position word h p =
    let m = word_met s.rules [] false idle position word h in
    ap (λ k. or_else k (step_fault s position m.0 m.1)) (faultless s word h p)
    ∙ ap (λ (n : Held × Step). step_fault s position n.0 n.1) (met s.rules position word h p)

turn-walk : (c : List Rule) (position : ℕ) (word : List ℕ) (h : Held) → is_value word ≡ true
    → walked c [] (at position h) word ≡ to_positional c (arg_by_index c position) word (at position h) h
unfolding walked
turn-walk c position word h p = ap (λ (m : Held × Step). after_step c word (at position h) m.0 m.1) (met c position word h p)

-- the commands are of the kind whose matches and faults clap tells
pub replay_free : is_simple_and_free (bare (codes "replay")) ≡ true
unfolding clap_on_literals
replay_free = refl

pub pair_free : is_simple_and_free pair_grammar ≡ true
unfolding clap_on_literals
pair_free = refl

pub pair_simple : is_simple pair_grammar ≡ true
unfolding clap_on_literals
pair_simple = refl

-- `replay` takes no word
pub replay_none : fault_of (bare (codes "replay")) [] ≡ []
unfolding clap_on_literals
replay_none = refl

-- the first fault counts
first-wins : (first more later : Kinds) → first ≡ UnknownArgument ∷ [] → or_else (or_else first more) later ≡ UnknownArgument ∷ []
first-wins first more later e = ap (λ k. or_else (or_else k more) later) e

third-wins : (first second third more later : Kinds) → first ≡ [] → second ≡ [] → third ≡ UnknownArgument ∷ []
    → or_else (or_else first (or_else second (or_else third more))) later ≡ UnknownArgument ∷ []
third-wins first second third more later e f g =
    ap (λ k. or_else (or_else k (or_else second (or_else third more))) later) e ∙ ap (λ k. or_else (or_else k (or_else third more)) later) f
    ∙ ap (λ k. or_else (or_else k more) later) g

pub replay-first : (word : List ℕ) (more : List (List ℕ)) → is_value word ≡ true → fault_of (bare (codes "replay")) (word ∷ more) ≡ UnknownArgument ∷ []
unfolding walk_fault
replay-first word more p =
    first-wins (turn_fault (built (bare (codes "replay"))).top [] (at 1 nothing_held) word) _ _
    (turn-fault (built (bare (codes "replay"))).top 1 word nothing_held p)

-- two words are taken
abbrev grammar : App
grammar = built pair_grammar

abbrev rules : List Rule
rules = grammar.top.rules

abbrev after-one : List ℕ → Walk
after-one a = to_positional rules (arg_by_index rules 1) a (at 1 nothing_held) nothing_held

abbrev after-two : List ℕ → List ℕ → Walk
after-two a s = to_positional rules (arg_by_index rules 2) s (after-one a) (after-one a).held

walk-two : (a s : List ℕ) → is_value a ≡ true → is_value s ≡ true → walked rules [] (walked rules [] (at 1 nothing_held) a) s ≡ after-two a s
walk-two a s p q = ap (λ w. walked rules [] w s) (turn-walk rules 1 a nothing_held p) ∙ turn-walk rules 2 s (after-one a).held q

-- the fault after the last word
abbrev end-fault : Walk → Kinds
end-fault w =
    or_else (entered_fault grammar w.stopped)
    (or_else (settle_fault rules grammar.top.args_override_self w.held)
    (or_else (defaults_fault (settled rules w.held).rows rules) (check_fault grammar.top (finished rules w.held) (is_some (entered grammar w.stopped)))))

pub pair-none : fault_of pair_grammar [] ≡ MissingRequiredArgument ∷ []
unfolding clap_on_literals
pair-none = refl

one-end : (a : List ℕ) → end-fault (after-one a) ≡ MissingRequiredArgument ∷ []
unfolding clap_on_literals
one-end a = refl

one-form : (a : List ℕ) → fault_of pair_grammar (a ∷ [])
    ≡ or_else (or_else (turn_fault grammar.top [] (at 1 nothing_held) a) []) (end-fault (walked rules [] (at 1 nothing_held) a))
unfolding walk_fault
one-form a = refl

pub pair-one : (a : List ℕ) → is_value a ≡ true → fault_of pair_grammar (a ∷ []) ≡ MissingRequiredArgument ∷ []
pair-one a p =
    one-form a
    ∙ ap₂ (λ k w. or_else (or_else k []) (end-fault w)) (turn-fault grammar.top 1 a nothing_held p) (turn-walk rules 1 a nothing_held p)
    ∙ one-end a

two-end : (a s : List ℕ) → end-fault (after-two a s) ≡ []
unfolding clap_on_literals
two-end a s = refl

two-form : (a s : List ℕ) → fault_of pair_grammar (a ∷ s ∷ [])
    ≡ or_else (or_else (turn_fault grammar.top [] (at 1 nothing_held) a) (or_else (turn_fault grammar.top [] (walked rules [] (at 1 nothing_held) a) s) []))
    (end-fault (walked rules [] (walked rules [] (at 1 nothing_held) a) s))
unfolding walk_fault
two-form a s = refl

second-fault : (a s : List ℕ) → is_value a ≡ true → is_value s ≡ true → turn_fault grammar.top [] (walked rules [] (at 1 nothing_held) a) s ≡ []
second-fault a s p q =
    ap (λ w. turn_fault grammar.top [] w s) (turn-walk rules 1 a nothing_held p) ∙ turn-fault grammar.top 2 s (after-one a).held q

pub pair-two : (a s : List ℕ) → is_value a ≡ true → is_value s ≡ true → fault_of pair_grammar (a ∷ s ∷ []) ≡ []
pair-two a s p q =
    two-form a s
    ∙ ap (λ w. or_else (or_else (turn_fault grammar.top [] (at 1 nothing_held) a)
    (or_else (turn_fault grammar.top [] (walked rules [] (at 1 nothing_held) a) s) [])) (end-fault w))
    (walk-two a s p q)
    ∙ ap₂ (λ j k. or_else (or_else j (or_else k [])) (end-fault (after-two a s))) (turn-fault grammar.top 1 a nothing_held p) (second-fault a s p q)
    ∙ two-end a s

third-fault : (a s x : List ℕ) → is_value a ≡ true → is_value s ≡ true → is_value x ≡ true
    → turn_fault grammar.top [] (walked rules [] (walked rules [] (at 1 nothing_held) a) s) x ≡ UnknownArgument ∷ []
third-fault a s x p q r = ap (λ w. turn_fault grammar.top [] w x) (walk-two a s p q) ∙ turn-fault grammar.top 3 x (after-two a s).held r

pub pair-three : (a s x : List ℕ) (more : List (List ℕ)) → is_value a ≡ true → is_value s ≡ true → is_value x ≡ true
    → fault_of pair_grammar (a ∷ s ∷ x ∷ more) ≡ UnknownArgument ∷ []
unfolding walk_fault
pair-three a s x more p q r =
    third-wins (turn_fault grammar.top [] (at 1 nothing_held) a) (turn_fault grammar.top [] (walked rules [] (at 1 nothing_held) a) s)
    (turn_fault grammar.top [] (walked rules [] (walked rules [] (at 1 nothing_held) a) s) x) _ _ (turn-fault grammar.top 1 a nothing_held p)
    (second-fault a s p q) (third-fault a s x p q r)

-- and gives both
pub pair-first : (a s : List ℕ) → is_value a ≡ true → is_value s ≡ true → first_of (codes "FIRST") (matches_of pair_grammar (a ∷ s ∷ [])) ≡ Some a
pair-first a s p q = ap (λ w. first_of (codes "FIRST") (finished rules w.held)) (walk-two a s p q)

pub pair-second : (a s : List ℕ) → is_value a ≡ true → is_value s ≡ true → first_of (codes "SECOND") (matches_of pair_grammar (a ∷ s ∷ [])) ≡ Some s
pair-second a s p q = ap (λ w. first_of (codes "SECOND") (finished rules w.held)) (walk-two a s p q)
