-- One effect more is cast.
use Rattle.std.proofs.Common.{◌≡◌, List, [], ◌∷◌, ◌++◌, sym, subst, ap, ◌∙◌, arith}
use Rattle.std.proofs.lemmas.Grind.{common_steps}
use Rattle.stanza_model.specs.declared.effect.Effect.{Effect}
use Rattle.muc_service.specs.Casting.{after, cast, heard}
use Rattle.muc_service.specs.Changing.{HasRoomFor, HasRoomForAll}
use Rattle.muc_service.specs.Rooms.{Rooms, step}
use Rattle.muc_service.proofs.RoomLemmas.{all_next, one_of_all}

in_order : (a b c : List Effect) (e : Effect) → (a ++ b ++ e ∷ []) ++ c ≡ a ++ (b ++ e ∷ c)
in_order a b c e = grind (arith, common_steps)

pub cast_next : (done out es more all : List Effect) (e : Effect) (before now : Rooms) → es ≡ e ∷ more → out ≡ done ++ heard before e ++ e ∷ []
    → now ≡ step e before → done ++ cast before es ≡ all → out ++ cast now more ≡ all
cast_next done out es more all e before now first pushed stepped was =
    ap (λ (xs : List Effect). xs ++ cast now more) pushed
    ∙ ap (λ (r : Rooms). (done ++ heard before e ++ e ∷ []) ++ cast r more) stepped
    ∙ in_order done (heard before e) (cast (step e before) more) e
    ∙ sym (ap (λ (xs : List Effect). done ++ cast before xs) first) ∙ was

pub after_next : (es more : List Effect) (e : Effect) (before now last : Rooms) → es ≡ e ∷ more → now ≡ step e before → after before es ≡ last
    → after now more ≡ last
after_next es more e before now last first stepped was =
    ap (λ (r : Rooms). after r more) stepped ∙ sym (ap (λ (xs : List Effect). after before xs) first) ∙ was

pub room_next : (es more : List Effect) (e : Effect) (before now : Rooms) → es ≡ e ∷ more → now ≡ step e before → HasRoomForAll es before
    → HasRoomForAll more now
room_next es more e before now first stepped has =
    subst (λ (r : Rooms). HasRoomForAll more r) (sym stepped)
    (all_next e more before (subst (λ (xs : List Effect). HasRoomForAll xs before) first has))

pub room_first : (es more : List Effect) (e : Effect) (rooms : Rooms) → es ≡ e ∷ more → HasRoomForAll es rooms → HasRoomFor 1 rooms
room_first es more e rooms first has = one_of_all es rooms has
