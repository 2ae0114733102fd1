-- How a frame begins.
use Rattle.std.proofs.Common.{◌≡◌, ℕ, ◌==◌, List, [], ◌∷◌, refl, Bool, true, false, if◌then◌else◌, ◌&&◌, codes}
use Rattle.std.specs.List.{starts_with}
use Rattle.std.specs.Prelude.{nat_eq}
use Rattle.replay_script.specs.Drills.{begins, is_stanza}

pub begins_is : (bytes front : List ℕ) → starts_with nat_eq bytes front ≡ begins front bytes
begins_is bytes [] = refl
begins_is [] (a ∷ front) = refl
begins_is (b ∷ bytes) (a ∷ front) = by (a == b) (begins_is bytes front)
  where
    by : (t : Bool) → starts_with nat_eq bytes front ≡ begins front bytes
        → (t && starts_with nat_eq bytes front) ≡ (if t then begins front bytes else false)
    by true rest = rest
    by false rest = refl

-- Examples.

presence-counts : is_stanza (codes "<presence from='u0@example.org/r'/>") ≡ true
presence-counts = refl

request-does-not : is_stanza (codes "<r xmlns='urn:xmpp:sm:3'/>") ≡ false
request-does-not = refl
