-- A room is put at its place among those that a session entered.
use Rattle.std.proofs.Common.{◌≡◌, ℕ, suc, ◌+◌, ◌≤◌, List, [], ◌∷◌, length, drop, cond, Bool, true, false, refl, sym, ap, ◌∙◌, arith}
use Rattle.std.specs.Prelude.{nat_lt}
use Rattle.std.specs.List.{filter, insert}
use Rattle.muc_service.specs.Rooms.{Hosted, is_in}
use Rattle.house_model.specs.RoomLookups.{in_order, placed, stay_in}
use Rattle.house_routing.specs.Placings.{place_in}

-- it is one of their places, or the end
pub place_within : (s stay : ℕ) (hs : List Hosted) → place_in s stay hs ≤ length hs
place_within s stay [] = omega arith
place_within s stay (h ∷ hs) = by (nat_lt (stay_in s h) stay) (place_within s stay hs)
  where
    by : (b : Bool) → place_in s stay hs ≤ length hs → cond b (1 + place_in s stay hs) 0 ≤ length (h ∷ hs)
    by true rest = omega (arith, rest)
    by false rest = omega arith

pub placed_is : (s : ℕ) (x : Hosted) (hs : List Hosted) → insert hs (place_in s (stay_in s x) hs) x ≡ placed s x hs
placed_is s x [] = refl
placed_is s x (h ∷ hs) = by (nat_lt (stay_in s h) (stay_in s x)) (placed_is s x hs)
  where
    by : (b : Bool) → insert hs (place_in s (stay_in s x) hs) x ≡ placed s x hs
        → insert (h ∷ hs) (cond b (1 + place_in s (stay_in s x) hs) 0) x ≡ cond b (h ∷ placed s x hs) (x ∷ h ∷ hs)
    by true rest =
        let one : 1 + place_in s (stay_in s x) hs ≡ suc (place_in s (stay_in s x) hs) = omega arith in
        ap (λ (n : ℕ). insert (h ∷ hs) n x) one ∙ ap (λ (l : List Hosted). h ∷ l) rest
    by false rest = refl

-- one room more, from the end
module _ (s i : ℕ) (hs : List Hosted) (h : Hosted) where
  pub in_order_yes : (found : List Hosted) → drop i hs ≡ h ∷ drop (i + 1) hs → is_in s h ≡ true
      → found ≡ in_order s (filter (is_in s) (drop (i + 1) hs)) → placed s h found ≡ in_order s (filter (is_in s) (drop i hs))
  in_order_yes found first here is =
      ap (placed s h) is
      ∙ (ap (λ (b : Bool). in_order s (cond b (h ∷ filter (is_in s) (drop (i + 1) hs)) (filter (is_in s) (drop (i + 1) hs)))) (sym here)
      ∙ ap (λ (l : List Hosted). in_order s (filter (is_in s) l)) (sym first))

  pub in_order_no : (found : List Hosted) → drop i hs ≡ h ∷ drop (i + 1) hs → is_in s h ≡ false
      → found ≡ in_order s (filter (is_in s) (drop (i + 1) hs)) → found ≡ in_order s (filter (is_in s) (drop i hs))
  in_order_no found first not_here is =
      is
      ∙ (ap (λ (b : Bool). in_order s (cond b (h ∷ filter (is_in s) (drop (i + 1) hs)) (filter (is_in s) (drop (i + 1) hs)))) (sym not_here)
      ∙ ap (λ (l : List Hosted). in_order s (filter (is_in s) l)) (sym first))
