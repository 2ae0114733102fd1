-- Options that follow others.
use Rattle.std.proofs.Common.{Bor, ℕ, ◌≡◌, List, [], ◌∷◌, ◌++◌, map, Some, None, refl, sym, ap, ◌∙◌}
use Rattle.std.specs.Prelude.{Option}
use Rattle.std.proofs.lemmas.List.{append_assoc, map-append}
use Rattle.account_book.specs.Fields.{on}
use Rattle.serve_words.specs.declared.option.Given.{Given}
use Rattle.serve_words.specs.Options.{Set, before_all, only, set_of, sole}

-- some options, and then those that follow
abbrev pub after_some : List Set → Option (List Set) → Option (List Set)
after_some front rest = on rest (λ more. Some (front ++ more))

pub one-more : (given : List Given) (one : Given) (rest : Option (List Set))
    → after_some (map set_of given) (before_all (set_of one) rest) ≡ after_some (map set_of (given ++ (one ∷ []))) rest
one-more given one None = refl
one-more given one (Some more) =
    ap Some (sym (append_assoc (map set_of given) (set_of one ∷ []) more) ∙ ap (λ l. l ++ more) (sym (map-append set_of given (one ∷ []))))

-- the value that was found
abbrev pub found_in : Option (Bor (List ℕ)) → List (List ℕ)
found_in None = []
found_in (Some value) = value.now ∷ []

-- the only value, by the one that is given
pub only_some : (default value : List ℕ) (values : List (List ℕ)) → Some (Some value) ≡ sole values → Some value ≡ only default values
only_some default value [] e = absurd (let k : Some (Some value) ≡ Some None = e in cc)
only_some default value (v ∷ []) e = let k : Some (Some value) ≡ Some (Some v) = e in cc
only_some default value (v ∷ w ∷ more) e = absurd (let k : Some (Some value) ≡ None = e in cc)

pub only_none : (default : List ℕ) (values : List (List ℕ)) → Some None ≡ sole values → Some default ≡ only default values
only_none default [] e = refl
only_none default (v ∷ []) e = absurd (let k : Some None ≡ Some (Some v) = e in cc)
only_none default (v ∷ w ∷ more) e = absurd (let k : Some None ≡ None = e in cc)

pub only_many : (default : List ℕ) (values : List (List ℕ)) → None ≡ sole values → None ≡ only default values
only_many default [] e = absurd (let k : None ≡ Some None = e in cc)
only_many default (v ∷ []) e = absurd (let k : None ≡ Some (Some v) = e in cc)
only_many default (v ∷ w ∷ more) e = refl
