-- What clap makes of seven options, each in one word.
use Rattle.std.proofs.Common.{◌≡◌, ◌++◌, ℕ, List, [], ◌∷◌, true, Some, codes, refl}
use Rattle.clap.specs.Words.{first_of, is_simple, matches_of, takes}
use Rattle.clap.proofs.OnLiterals.{clap_on_literals}
use Rattle.serve_words.specs.Grammars.{grammar}

pub is-simple : is_simple grammar ≡ true
unfolding clap_on_literals
is-simple = refl

abbrev pub seven : (d p w l c q n : List ℕ) → List (List ℕ)
seven d p w l c q n =
    (codes "--domain=" ++ d) ∷ (codes "--port=" ++ p) ∷ (codes "--workers=" ++ w) ∷ (codes "--links=" ++ l) ∷ (codes "--connections=" ++ c)
    ∷ (codes "--quiet=" ++ q) ∷ (codes "--sessions=" ++ n) ∷ []

pub are-taken : (d p w l c q n : List ℕ) → takes grammar (seven d p w l c q n) ≡ true
unfolding clap_on_literals
are-taken d p w l c q n = refl

pub domain-is : (d p w l c q n : List ℕ) → first_of (codes "domain") (matches_of grammar (seven d p w l c q n)) ≡ Some d
unfolding clap_on_literals
domain-is d p w l c q n = refl

pub port-is : (d p w l c q n : List ℕ) → first_of (codes "port") (matches_of grammar (seven d p w l c q n)) ≡ Some p
unfolding clap_on_literals
port-is d p w l c q n = refl

pub workers-are : (d p w l c q n : List ℕ) → first_of (codes "workers") (matches_of grammar (seven d p w l c q n)) ≡ Some w
unfolding clap_on_literals
workers-are d p w l c q n = refl

pub links-are : (d p w l c q n : List ℕ) → first_of (codes "links") (matches_of grammar (seven d p w l c q n)) ≡ Some l
unfolding clap_on_literals
links-are d p w l c q n = refl

pub connections-are : (d p w l c q n : List ℕ) → first_of (codes "connections") (matches_of grammar (seven d p w l c q n)) ≡ Some c
unfolding clap_on_literals
connections-are d p w l c q n = refl

pub quiet-is : (d p w l c q n : List ℕ) → first_of (codes "quiet") (matches_of grammar (seven d p w l c q n)) ≡ Some q
unfolding clap_on_literals
quiet-is d p w l c q n = refl

pub sessions-are : (d p w l c q n : List ℕ) → first_of (codes "sessions") (matches_of grammar (seven d p w l c q n)) ≡ Some n
unfolding clap_on_literals
sessions-are d p w l c q n = refl
