-- What two sides have in common, and what effects make of them.
use Rattle.std.specs.Prelude.{◌≡◌, List, [], ◌∷◌, Bool, true, ◌&&◌, bytes_eq, if◌then◌else◌}
use Rattle.jid_core.specs.Addresses.{Address, same_address}
use Rattle.stanza_model.specs.declared.effect.Change.TheVariants.{Sees, Asked, Contact}
use Rattle.stanza_model.specs.declared.effect.Effect.{Effect}
use Rattle.stanza_model.specs.declared.effect.Effect.TheVariants.{Set}
use Rattle.stanza_model.specs.declared.shared.Side.{Side}
use Rattle.subscription_pairs.specs.Users.{user_of}

-- each says of the other what the other says of itself
pub record AreOpposite (mine theirs : Side) : Type 0 where
  pub sees : mine.sees ≡ theirs.seen
  pub seen : mine.seen ≡ theirs.sees
  pub asked : mine.asked ≡ theirs.asked_by
  pub asked_by : mine.asked_by ≡ theirs.asked

abbrev pub AreBothListed : Side → Side → Type 0
AreBothListed mine theirs = (mine.listed ≡ true) × (theirs.listed ≡ true)

-- where one sees the other, each is a contact of the other; where one has asked, the other is its contact
pub record AreListed (mine theirs : Side) : Type 0 where
  pub sees : mine.sees ≡ true → AreBothListed mine theirs
  pub seen : mine.seen ≡ true → AreBothListed mine theirs
  pub asked : mine.asked ≡ true → mine.listed ≡ true
  pub asked_by : mine.asked_by ≡ true → theirs.listed ≡ true

-- whether x and y are a and b
abbrev pub is_of : Address → Address → Address → Address → Bool
is_of a b x y = same_address x a && same_address y b

-- the side of a towards b where x sees y from now on, or no more
abbrev pub seeing : Address → Address → Address → Address → Bool → Side → Side
seeing a b x y is side =
    if is_of a b x y then record side { sees = is }
    else if is_of b a x y then record side { seen = is }
    else side

-- where x has asked y, or has no more
abbrev pub asking : Address → Address → Address → Address → Bool → Side → Side
asking a b x y is side =
    if is_of a b x y then record side { asked = is }
    else if is_of b a x y then record side { asked_by = is }
    else side

-- one effect
abbrev pub changed : Address → Address → Side → Effect → Side
changed a b side (Set (Sees x y is)) = seeing a b x y is side
changed a b side (Set (Asked x y is)) = asking a b x y is side
changed a b side (Set (Contact user address name groups)) =
    if bytes_eq user (user_of a) && same_address address b then record side { listed = true } else side
changed a b side effect = side

-- all of them, one after another
abbrev pub after : Address → Address → Side → List Effect → Side
after a b side [] = side
after a b side (e ∷ more) = after a b (changed a b side e) more
