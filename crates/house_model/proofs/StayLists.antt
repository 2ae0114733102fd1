-- Lists of a stanza's effects that suit, one after another; those that name no room; and the addresses that tables read.
use Rattle.std.proofs.Common.{◌≡◌, ℕ, List, [], ◌∷◌, ◌++◌, append_assoc, sym, refl, ap, ◌∙◌, subst, None}
use Rattle.std.specs.Prelude.{⊤}
use Rattle.std.specs.List.{AllByRecursion}
use Rattle.jid_core.specs.Addresses.{Address}
use Rattle.stanza_model.specs.declared.effect.Change.{Change}
use Rattle.stanza_model.specs.declared.effect.Change.TheVariants as change
use Rattle.stanza_model.specs.declared.effect.Effect as stanza
use Rattle.stanza_model.specs.declared.effect.Effect.TheVariants as effect
use Rattle.muc_service.specs.Rooms.{Rooms, step}
use Rattle.muc_service.specs.Casting.{after, cast, heard}
use Rattle.house_model.specs.Sessions.{Hold, Held, Away, Ended, Gone, Rest}
use Rattle.house_model.specs.Traffic.{Traffic}
use Rattle.house_model.specs.States.{World, keep_by, keep_world}
use Rattle.house_model.specs.Steps.{effect_of}
use Rattle.house_model.specs.Casts.{IsPlain, ChangeSuits, Suits, AllSuit, addresses_in}

-- one list after another

pub suit_both : (made : ℕ) (addresses : ℕ → Address) (rooms : Rooms) (xs ys : List stanza.Effect)
    → AllSuit made addresses rooms xs → AllSuit made addresses (after rooms xs) ys → AllSuit made addresses rooms (xs ++ ys)
suit_both made addresses rooms [] ys first rest = rest
suit_both made addresses rooms (x ∷ xs) ys first rest = (first.0, suit_both made addresses (step x rooms) xs ys first.1 rest)

pub cast_both : (rooms : Rooms) (xs ys : List stanza.Effect) → cast rooms (xs ++ ys) ≡ cast rooms xs ++ cast (after rooms xs) ys
cast_both rooms [] ys = refl
cast_both rooms (x ∷ xs) ys =
    ap (λ (l : List stanza.Effect). heard rooms x ++ x ∷ l) (cast_both (step x rooms) xs ys)
    ∙ sym (append_assoc (heard rooms x) (x ∷ cast (step x rooms) xs) (cast (after (step x rooms) xs) ys))

-- effects that name no room suit any rooms, change none, and are cast as they are

abbrev pub IsCalm : stanza.Effect → Type 0
IsCalm (effect.Keep user peer text moment) = ⊤
IsCalm e = IsPlain (effect_of e)

set_calm : (rooms : Rooms) (c : Change) → IsCalm (effect.Set c) → ChangeSuits rooms c × (step (effect.Set c) rooms ≡ rooms)
set_calm rooms (change.RoomMade n address owner) calm = absurd calm
set_calm rooms (change.RoomGone n) calm = absurd calm
set_calm rooms (change.Unlocked n) calm = absurd calm
set_calm rooms (change.Configured n config) calm = absurd calm
set_calm rooms (change.Affiliated n address a) calm = absurd calm
set_calm rooms (change.RoleSet n s role) calm = absurd calm
set_calm rooms (change.Renamed n s nick) calm = absurd calm
set_calm rooms (change.OccupantShown n s presence) calm = absurd calm
set_calm rooms (change.Subject n text stamp) calm = absurd calm
set_calm rooms (change.RoomRow n peer text moment) calm = absurd calm
set_calm rooms c calm = (tt, refl)

-- it suits, changes no room, and has no views before it
abbrev pub IsIdle : ℕ → (ℕ → Address) → Rooms → stanza.Effect → Type 0
IsIdle made addresses rooms e = Suits made addresses rooms e × (step e rooms ≡ rooms) × (heard rooms e ≡ [])

one_calm : (made : ℕ) (addresses : ℕ → Address) (rooms : Rooms) (e : stanza.Effect) → IsCalm e → IsIdle made addresses rooms e
one_calm made addresses rooms (effect.Queue s to rest origin) calm = (calm, refl, refl)
one_calm made addresses rooms (effect.Broadcast n item) calm = absurd calm
one_calm made addresses rooms (effect.Enter n s address nick role) calm = absurd calm
one_calm made addresses rooms (effect.Leave n s) calm = absurd calm
one_calm made addresses rooms (effect.Keep user peer text moment) calm = (tt, refl, refl)
one_calm made addresses rooms (effect.Set c) calm = ((set_calm rooms c calm).0, (set_calm rooms c calm).1, refl)

pub calm_suits : (made : ℕ) (addresses : ℕ → Address) (rooms : Rooms) (es : List stanza.Effect) → AllByRecursion IsCalm es → AllSuit made addresses rooms es
calm_suits made addresses rooms [] calm = tt
calm_suits made addresses rooms (e ∷ es) calm =
    let first : IsIdle made addresses rooms e = one_calm made addresses rooms e calm.0 in
    (first.0, subst (λ (rs : Rooms). AllSuit made addresses rs es) (sym first.1) (calm_suits made addresses rooms es calm.1))

pub calm_after : (rooms : Rooms) (es : List stanza.Effect) → AllByRecursion IsCalm es → after rooms es ≡ rooms
calm_after rooms [] calm = refl
calm_after rooms (e ∷ es) calm =
    let first : IsIdle 0 (λ s. record { local = None; domain = []; resource = None }) rooms e =
    one_calm 0 (λ s. record { local = None; domain = []; resource = None }) rooms e calm.0 in
    ap (λ (rs : Rooms). after rs es) first.1 ∙ calm_after rooms es calm.1

pub calm_cast : (rooms : Rooms) (es : List stanza.Effect) → AllByRecursion IsCalm es → cast rooms es ≡ es
calm_cast rooms [] calm = refl
calm_cast rooms (e ∷ es) calm =
    let first : IsIdle 0 (λ s. record { local = None; domain = []; resource = None }) rooms e =
    one_calm 0 (λ s. record { local = None; domain = []; resource = None }) rooms e calm.0 in
    ap (λ (l : List stanza.Effect). l ++ e ∷ cast (step e rooms) es) first.2
    ∙ ap (λ (l : List stanza.Effect). e ∷ l) (ap (λ (rs : Rooms). cast rs es) first.1 ∙ calm_cast rooms es calm.1)

-- the address of a session that did not depart is kept

address_by : (b : _) (m : Hold) (t : Traffic) (r : Rest) → (m ≡ Gone → ⊥) → (keep_by b m t r).rest.address ≡ r.address
address_by b (Held w c) t r stays = refl
address_by b Away t r stays = refl
address_by b (Ended cause) t r stays = refl
address_by b Gone t r stays = absurd (stays refl)

pub kept_address : (world : World Traffic) (s : ℕ) → ((world.sessions s).hold ≡ Gone → ⊥) → ((keep_world world).sessions s).rest.address ≡ addresses_in world s
kept_address world s stays = address_by (world.sessions s).counts (world.sessions s).hold (world.sessions s).traffic (world.sessions s).rest stays
