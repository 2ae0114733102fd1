-- Which task words are.
use Rattle.std.proofs.Common.{◌≡◌, ℕ, ◌&&◌, List, [], ◌∷◌, length, Bool, true, false, true≢false, Some, None, codes, arith, refl, sym, ap, ap₂, ◌∙◌}
use Rattle.std.specs.Prelude.{Option, Err, is_some, unwrap_or}
use Rattle.std.specs.List.{list_all}
use Rattle.std.proofs.lemmas.Bool.{cond-false, cond-true}
use Rattle.account_book.specs.Fields.{on, salt_in}
use Rattle.clap.specs.Words.{Row, fault_of, first_of, matches_of}
use Rattle.script_play.specs.declared.status.Status.{Status}
use Rattle.script_play.specs.declared.status.Status.TheVariants as status
use Rattle.serve_words.specs.Grammars.{bare}
use Rattle.serve_words.specs.Options.{IsRefusal, is_value}
use Rattle.commands.specs.Commands.{Play, Make, account_task, make_of, name_in, replay_task}
use Rattle.commands.specs.Grammars.{Parses, pair_grammar, pair_in}
use Rattle.commands.proofs.Conjunctions.{two-true, true-two}
use Rattle.commands.proofs.GrammarLemmas.{replay_none, replay-first, pair-none, pair-one, pair-two, pair-three, pair-first, pair-second}

one-fault : {X : Type 0} {x : X} {xs : List X} → x ∷ xs ≡ [] → ⊥
one-fault e = let n = ap length e in omega (arith, n)

-- `replay` has no further word
pub replay_some : (words : List (List ℕ)) → list_all is_value words ≡ true → fault_of (bare (codes "replay")) words ≡ [] → replay_task words ≡ Some Play
replay_some [] all none = refl
replay_some (w ∷ more) all none = absurd (one-fault (sym (replay-first w more (two-true (is_value w) (list_all is_value more) all).0) ∙ none))

pub replay_refused : (M : Type 0) (words : List (List ℕ)) (s : Status) → Parses {M = M} (fault_of (bare (codes "replay")) words) (Err s)
    → IsRefusal (replay_task words) s
replay_refused M [] status.Usage parsed = absurd (parsed replay_none)
replay_refused M (w ∷ more) status.Usage parsed = refl
replay_refused M words status.NoMemory parsed = tt
replay_refused M words status.Done parsed = absurd parsed
replay_refused M words (status.Accounts line) parsed = absurd parsed
replay_refused M words (status.Script line) parsed = absurd parsed
replay_refused M words status.ReadFault parsed = absurd parsed
replay_refused M words status.WriteFault parsed = absurd parsed
replay_refused M words status.ListenFault parsed = absurd parsed

pub replay_other : (words : List (List ℕ)) → list_all is_value words ≡ false → replay_task words ≡ None
replay_other [] other = absurd (true≢false other)
replay_other (w ∷ more) other = refl

-- two words
pub record ArePair (words : List (List ℕ)) : Type 0 where
  pub first : List ℕ
  pub second : List ℕ
  pub words_are : words ≡ first ∷ second ∷ []
  pub first_is : first_of (codes "FIRST") (matches_of pair_grammar words) ≡ Some first
  pub second_is : first_of (codes "SECOND") (matches_of pair_grammar words) ≡ Some second

pub are_pair : (words : List (List ℕ)) → list_all is_value words ≡ true → fault_of pair_grammar words ≡ [] → ArePair words
are_pair [] all none = absurd (one-fault (sym pair-none ∙ none))
are_pair (a ∷ []) all none = absurd (one-fault (sym (pair-one a (two-true (is_value a) true all).0) ∙ none))
are_pair (a ∷ s ∷ []) all none =
    let more = two-true (is_value a) (is_value s && true) all in
    let last = two-true (is_value s) true more.1 in
    record { first = a; second = s; words_are = refl; first_is = pair-first a s more.0 last.0; second_is = pair-second a s more.0 last.0 }
are_pair (a ∷ s ∷ x ∷ more) all none =
    let b = two-true (is_value a) (list_all is_value (s ∷ x ∷ more)) all in
    let c = two-true (is_value s) (list_all is_value (x ∷ more)) b.1 in
    let d = two-true (is_value x) (list_all is_value more) c.1 in
    absurd (one-fault (sym (pair-three a s x more b.0 c.0 d.0) ∙ none))

pub no_pair : (words : List (List ℕ)) → list_all is_value words ≡ true → (fault_of pair_grammar words ≡ [] → ⊥) → pair_in words ≡ None
no_pair [] all fault = refl
no_pair (a ∷ []) all fault = refl
no_pair (a ∷ s ∷ []) all fault =
    let more = two-true (is_value a) (is_value s && true) all in
    absurd (fault (pair-two a s more.0 (two-true (is_value s) true more.1).0))
no_pair (a ∷ s ∷ x ∷ more) all fault = refl

-- and clap's matches have them
value-is : (v w : List ℕ) (o : Option (List ℕ)) → o ≡ Some v → o ≡ Some w → v ≡ w
value-is v w o e f = ap (λ p. unwrap_or p []) (sym e ∙ f)

pub first_there : (words : List (List ℕ)) (rows : List Row) → list_all is_value words ≡ true → fault_of pair_grammar words ≡ []
    → rows ≡ matches_of pair_grammar words
    → is_some (first_of (codes "FIRST") rows) ≡ true
first_there words rows all none same = ap (λ r. is_some (first_of (codes "FIRST") r)) same ∙ ap is_some (are_pair words all none).first_is

pub second_there : (words : List (List ℕ)) (rows : List Row) → list_all is_value words ≡ true → fault_of pair_grammar words ≡ []
    → rows ≡ matches_of pair_grammar words
    → is_some (first_of (codes "SECOND") rows) ≡ true
second_there words rows all none same = ap (λ r. is_some (first_of (codes "SECOND") r)) same ∙ ap is_some (are_pair words all none).second_is

pub pair_read : (words : List (List ℕ)) (rows : List Row) (first second : List ℕ) → list_all is_value words ≡ true → fault_of pair_grammar words ≡ []
    → rows ≡ matches_of pair_grammar words → first_of (codes "FIRST") rows ≡ Some first → first_of (codes "SECOND") rows ≡ Some second
    → pair_in words ≡ Some (first, second)
pair_read words rows first second all none same is are =
    let pair = are_pair words all none in
    ap pair_in pair.words_are
    ∙ ap₂ (λ (n s : List ℕ). Some (n, s)) (value-is pair.first first (first_of (codes "FIRST") rows) (ap (first_of (codes "FIRST")) same ∙ pair.first_is) is)
    (value-is pair.second second (first_of (codes "SECOND") rows) (ap (first_of (codes "SECOND")) same ∙ pair.second_is) are)

pub pair_refused : (M : Type 0) (words : List (List ℕ)) (s : Status) → list_all is_value words ≡ true → Parses {M = M} (fault_of pair_grammar words) (Err s)
    → IsRefusal (pair_in words) s
pair_refused M words status.Usage all parsed = no_pair words all parsed
pair_refused M words status.NoMemory all parsed = tt
pair_refused M words status.Done all parsed = absurd parsed
pair_refused M words (status.Accounts line) all parsed = absurd parsed
pair_refused M words (status.Script line) all parsed = absurd parsed
pair_refused M words status.ReadFault all parsed = absurd parsed
pair_refused M words status.WriteFault all parsed = absurd parsed
pair_refused M words status.ListenFault all parsed = absurd parsed

-- the task of two positional words
pub account_two : (words : List (List ℕ)) (name salt : List ℕ) → list_all is_value words ≡ true → pair_in words ≡ Some (name, salt)
    → account_task words ≡ make_of name salt
account_two words name salt all pair =
    ap account_task (words-pair words name salt pair) ∙ both name salt (sym (ap (list_all is_value) (words-pair words name salt pair)) ∙ all)
  where
    none-some : {X : Type 0} {x : X} → None ≡ Some x → ⊥
    none-some e = true≢false (sym (ap is_some e))

    first-of : Option (List ℕ × List ℕ) → List ℕ
    first-of None = []
    first-of (Some p) = p.0

    second-of : Option (List ℕ × List ℕ) → List ℕ
    second-of None = []
    second-of (Some p) = p.1

    words-pair : (words : List (List ℕ)) (name salt : List ℕ) → pair_in words ≡ Some (name, salt) → words ≡ name ∷ salt ∷ []
    words-pair [] name salt pair = absurd (none-some pair)
    words-pair (a ∷ []) name salt pair = absurd (none-some pair)
    words-pair (a ∷ s ∷ []) name salt pair =
        ap₂ (λ v w. v ∷ w ∷ []) (ap (λ (o : Option (List ℕ × List ℕ)). first-of o) pair) (ap (λ (o : Option (List ℕ × List ℕ)). second-of o) pair)
    words-pair (a ∷ s ∷ x ∷ more) name salt pair = absurd (none-some pair)

    both : (name salt : List ℕ) → list_all is_value (name ∷ salt ∷ []) ≡ true → account_task (name ∷ salt ∷ []) ≡ make_of name salt
    both name salt all =
        let more = two-true (is_value name) (is_value salt && true) all in
        let last = two-true (is_value salt) true more.1 in
        cond-true (is_value name && is_value salt) (make_of name salt) None (true-two (is_value name) (is_value salt) more.0 last.0)

-- other words have none
pub account_not_two : (words : List (List ℕ)) → pair_in words ≡ None → account_task words ≡ None
account_not_two [] none = refl
account_not_two (a ∷ []) none = refl
account_not_two (a ∷ s ∷ []) none = absurd (true≢false (ap is_some none))
account_not_two (a ∷ s ∷ x ∷ more) none = refl

pub account_other : (words : List (List ℕ)) → list_all is_value words ≡ false → account_task words ≡ None
account_other [] other = refl
account_other (a ∷ []) other = refl
account_other (a ∷ s ∷ []) other = cond-false (is_value a && is_value s) (make_of a s) None (two-false (is_value a) (is_value s) other)
  where
    two-false : (c d : Bool) → (c && (d && true)) ≡ false → (c && d) ≡ false
    two-false true true h = h
    two-false true false h = refl
    two-false false d h = refl
account_other (a ∷ s ∷ x ∷ more) other = refl

-- a name or a salt that is none
pub make_no_name : (name salt : List ℕ) → name_in name ≡ None → make_of name salt ≡ None
make_no_name name salt none = ap (λ o. on o (λ local. on (salt_in salt) (λ bytes. Some (Make local bytes)))) none

pub make_no_salt : (name salt local : List ℕ) → name_in name ≡ Some local → salt_in salt ≡ None → make_of name salt ≡ None
make_no_salt name salt local is none =
    ap (λ o. on o (λ l. on (salt_in salt) (λ bytes. Some (Make l bytes)))) is ∙ ap (λ o. on o (λ bytes. Some (Make local bytes))) none

pub make_some : (name salt local bytes : List ℕ) → name_in name ≡ Some local → salt_in salt ≡ Some bytes → make_of name salt ≡ Some (Make local bytes)
make_some name salt local bytes is are =
    ap (λ o. on o (λ l. on (salt_in salt) (λ bs. Some (Make l bs)))) is ∙ ap (λ o. on o (λ bs. Some (Make local bs))) are
