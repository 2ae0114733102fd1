-- Whether some session has a resource decides which sessions get a message.
use Rattle.std.proofs.Common.{◌≡◌, List, [], ◌∷◌, ◌||◌, Bool, true, false, refl, if◌then◌else◌}
use Rattle.std.specs.List.{filter, list_any}
use Rattle.stanza_model.specs.declared.here.Here.{Here}
use Rattle.stanza_model.specs.declared.kinds.MessageForm.{MessageForm}
use Rattle.stanza_router.specs.Messages.{else_of_user}

pub kept_some : (form : MessageForm) (all : List Here) (p : Here → Bool) (xs : List Here) → list_any p xs ≡ true
    → filter p xs ≡ else_of_user form all (filter p xs)
kept_some form all p [] is = absurd (cc)
kept_some form all p (x ∷ xs) is = by (p x) is (kept_some form all p xs)
  where
    by : (b : Bool) → (b || list_any p xs) ≡ true → (list_any p xs ≡ true → filter p xs ≡ else_of_user form all (filter p xs))
        → (if b then x ∷ filter p xs else filter p xs) ≡ else_of_user form all (if b then x ∷ filter p xs else filter p xs)
    by true is later = refl
    by false is later = later is

pub kept_none : (p : Here → Bool) (xs : List Here) → list_any p xs ≡ false → filter p xs ≡ []
kept_none p [] is = refl
kept_none p (x ∷ xs) is = by (p x) is (kept_none p xs)
  where
    by : (b : Bool) → (b || list_any p xs) ≡ false → (list_any p xs ≡ false → filter p xs ≡ []) → (if b then x ∷ filter p xs else filter p xs) ≡ []
    by true is later = absurd (cc)
    by false is later = later is
