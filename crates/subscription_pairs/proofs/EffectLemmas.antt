-- What a row's effects make of the two sides.
use Rattle.std.proofs.Common.{◌≡◌, List, [], ◌∷◌, ◌++◌, map, flat_map, Bool, true, false, not, ◌&&◌, ◌||◌, bytes_eq}
use Rattle.std.proofs.Common.{refl, sym, ap, subst, ◌∙◌, if◌then◌else◌, ℕ, Option, Some, None}
use Rattle.std.specs.List.{filter}
use Rattle.std.proofs.lemmas.Slice.Eq.{bytes_eq-Decides}
use Rattle.jid_core.specs.Addresses.{Address, same_address, same_bare, same_part}
use Rattle.jid_core.proofs.AddressLemmas.{same_address-equal}
use Rattle.stanza_tree.specs.declared.node.Element.{Element}
use Rattle.stanza_model.specs.Rosters.{pushes, pushes_if}
use Rattle.stanza_model.specs.Subscriptions.{answered, approved, cancelled, outbound, requested, unchanged, withdrawn}
use Rattle.stanza_model.specs.declared.effect.Change.TheVariants.{Contact}
use Rattle.stanza_model.specs.declared.effect.Effect.{Effect}
use Rattle.stanza_model.specs.declared.effect.Effect.TheVariants.{Set}
use Rattle.stanza_model.specs.declared.here.Here.{Here}
use Rattle.stanza_model.specs.declared.kinds.PresenceForm.{PresenceForm}
use Rattle.stanza_model.specs.declared.kinds.PresenceForm.TheVariants.{Available, Unavailable, Subscribe, Subscribed, Unsubscribe, Unsubscribed, Probe, Error}
use Rattle.stanza_model.specs.declared.shared.Outcome.{Outcome}
use Rattle.stanza_model.specs.declared.shared.Show.{Show}
use Rattle.stanza_model.specs.declared.shared.Show.TheVariants.{Nothing, MineAvailable, MineUnavailable, TheirsUnavailable}
use Rattle.stanza_model.specs.declared.shared.Side.{Side}
use Rattle.subscription_pairs.specs.Changes.{asked, both_ended, effects_of, made, pushed_mine, pushed_theirs, row_subscribe, row_subscribed}
use Rattle.subscription_pairs.specs.Changes.{row_unsubscribe, row_unsubscribed, removal, sees, then_cancelled, told, untold}
use Rattle.subscription_pairs.specs.Deliveries.{all_sent_to, available_of, delivered, receives, sent_to, shown, unavailable_of}
use Rattle.subscription_pairs.specs.Sides.{after, changed, is_of}
use Rattle.subscription_pairs.specs.Users.{User, side_of, user_of}

after-append : (a b : Address) (s : Side) (xs ys : List Effect) → after a b s (xs ++ ys) ≡ after a b (after a b s xs) ys
after-append a b s [] ys = refl
after-append a b s (x ∷ xs) ys = after-append a b (changed a b s x) xs ys

-- What is queued, and the count of pushes, change no side.

abbrev Quiet : Address → Address → List Effect → Type 0
Quiet a b xs = (s : Side) → after a b s xs ≡ s

quiet-append : (a b : Address) (xs ys : List Effect) → Quiet a b xs → Quiet a b ys → Quiet a b (xs ++ ys)
quiet-append a b xs ys p q s = after-append a b s xs ys ∙ (q (after a b s xs) ∙ p s)

quiet-map : {X : Type 0} (a b : Address) (f : X → Effect) → ((x : X) (s : Side) → changed a b s (f x) ≡ s) → (xs : List X) → Quiet a b (map f xs)
quiet-map a b f p [] s = refl
quiet-map a b f p (x ∷ xs) s = quiet-map a b f p xs (changed a b s (f x)) ∙ p x s

quiet-flat_map : {X : Type 0} (a b : Address) (f : X → List Effect) → ((x : X) → Quiet a b (f x)) → (xs : List X) → Quiet a b (flat_map f xs)
quiet-flat_map a b f p [] s = refl
quiet-flat_map a b f p (x ∷ xs) s = quiet-append a b (f x) (flat_map f xs) (p x) (quiet-flat_map a b f p xs) s

quiet-if : (a b : Address) (t : Bool) (xs : List Effect) → Quiet a b xs → Quiet a b (if t then xs else [])
quiet-if a b true xs p s = p s
quiet-if a b false xs p s = refl

quiet-pushes_if : (a b : Address) (t : Bool) (h : Here) (x : Element) → Quiet a b (pushes_if t h x)
quiet-pushes_if a b true h x s = refl
quiet-pushes_if a b false h x s = refl

quiet-pushes : (a b : Address) (sessions : List Here) (x : Element) → Quiet a b (pushes sessions x)
quiet-pushes a b sessions x = quiet-flat_map a b _ (λ h. quiet-pushes_if a b h.wants_roster h x) sessions

quiet-delivered : (a b : Address) (form : PresenceForm) (address : Address) (sessions : List Here) → Quiet a b (delivered form address sessions)
quiet-delivered a b form address sessions = quiet-map a b _ (λ h s. refl) (filter (receives form) sessions)

quiet-sent : (a b : Address) (sessions : List Here) (texts : List (List ℕ)) → Quiet a b (all_sent_to sessions texts)
quiet-sent a b sessions texts = quiet-flat_map a b (sent_to sessions) (λ t. quiet-map a b _ (λ h s. refl) (available_of sessions)) texts

quiet-shown : (a b : Address) (what : Show) (one other : User) → Quiet a b (shown what one other)
quiet-shown a b Nothing one other s = refl
quiet-shown a b MineAvailable one other s = quiet-sent a b other.sessions one.presences s
quiet-shown a b MineUnavailable one other s = quiet-sent a b other.sessions (unavailable_of one.sessions) s
quiet-shown a b TheirsUnavailable one other s = quiet-sent a b one.sessions (unavailable_of other.sessions) s

quiet-mine : (x y : Address) (a b : User) (o : Outcome) → Quiet x y (pushed_mine a b o)
quiet-mine x y a b o = quiet-if x y o.push_mine _ (quiet-pushes x y a.sessions _)

quiet-theirs : (x y : Address) (a b : User) (o : Outcome) → Quiet x y (pushed_theirs a b o)
quiet-theirs x y a b o = quiet-if x y o.push_theirs _ (quiet-pushes x y b.sessions _)

-- what stands before quiet effects makes the side
quiet-end : (a b : Address) (s : Side) (xs ys : List Effect) → Quiet a b ys → after a b s (xs ++ ys) ≡ after a b s xs
quiet-end a b s xs ys q = after-append a b s xs ys ∙ q (after a b s xs)

-- Two users are two.

same_part-refl : (p : Option (List ℕ)) → same_part p p ≡ true
same_part-refl None = refl
same_part-refl (Some p) = (bytes_eq-Decides p p).1 refl

and-true : (p q : Bool) → p ≡ true → q ≡ true → (p && q) ≡ true
and-true p q e f = ap (λ b. b && q) e ∙ f

and-false : (p q : Bool) → p ≡ false → (p && q) ≡ false
and-false p q e = ap (λ b. b && q) e

and-never : (p : Bool) → (p && false) ≡ false
and-never true = refl
and-never false = refl

same_address-refl : (a : Address) → same_address a a ≡ true
same_address-refl a =
    and-true _ _ (and-true _ _ (same_part-refl a.local) ((bytes_eq-Decides a.domain a.domain).1 refl)) (same_part-refl a.resource)

other-way : (a b : Address) → same_address a b ≡ false → same_address b a ≡ false
other-way a b apart = by (same_address b a) refl
  where
    by : (t : Bool) → same_address b a ≡ t → t ≡ false
    by false e = refl
    by true e =
        let one : same_address a a ≡ false = subst (λ x. same_address a x ≡ false) (same_address-equal b a e) apart in
        let both : true ≡ false = sym (same_address-refl a) ∙ one in
        absurd (cc)

record Apart (a b : Address) : Type 0 where
  own : is_of a b a b ≡ true
  their_own : is_of b a b a ≡ true
  crossed : is_of a b b a ≡ false
  their_crossed : is_of b a a b ≡ false
  apart : same_address b a ≡ false

apart-from : (a b : Address) → same_address a b ≡ false → Apart a b
apart-from a b e = record {
  own = and-true _ _ (same_address-refl a) (same_address-refl b);
  their_own = and-true _ _ (same_address-refl b) (same_address-refl a);
  crossed = and-false _ _ (other-way a b e);
  their_crossed = and-false _ _ e;
  apart = other-way a b e;
}

-- the side of a towards b after one change

saw-own : (a b : Address) → Apart a b → (s : Side) (is : Bool) (more : List Effect) → after a b s (sees a b is ∷ more) ≡ after a b (record s { sees = is }) more
saw-own a b p s is more =
    ap (λ t. after a b (if t then record s { sees = is } else if is_of b a a b then record s { seen = is } else s) more) p.own

saw-other : (a b : Address) → Apart a b → (s : Side) (is : Bool) (more : List Effect)
    → after a b s (sees b a is ∷ more) ≡ after a b (record s { seen = is }) more
saw-other a b p s is more =
    ap (λ t. after a b (if t then record s { sees = is } else if is_of b a b a then record s { seen = is } else s) more) p.crossed
    ∙ ap (λ t. after a b (if t then record s { seen = is } else s) more) p.their_own

asked-own : (a b : Address) → Apart a b → (s : Side) (is : Bool) (more : List Effect)
    → after a b s (asked a b is ∷ more) ≡ after a b (record s { asked = is }) more
asked-own a b p s is more =
    ap (λ t. after a b (if t then record s { asked = is } else if is_of b a a b then record s { asked_by = is } else s) more) p.own

asked-other : (a b : Address) → Apart a b → (s : Side) (is : Bool) (more : List Effect)
    → after a b s (asked b a is ∷ more) ≡ after a b (record s { asked_by = is }) more
asked-other a b p s is more =
    ap (λ t. after a b (if t then record s { asked = is } else if is_of b a b a then record s { asked_by = is } else s) more) p.crossed
    ∙ ap (λ t. after a b (if t then record s { asked_by = is } else s) more) p.their_own

-- the contact that is made, where it is not there yet
abbrev made_if : User → User → Bool → List Effect
made_if a b listed = if not listed then Set (Contact (user_of a.bare) b.bare [] []) ∷ [] else []

contact-own : (a b : User) (s : Side) (listed : Bool) → s.listed ≡ listed → after a.bare b.bare s (made_if a b listed) ≡ record s { listed = true }
contact-own a b s true e = ap (λ t. record s { listed = t }) e
contact-own a b s false e =
    ap (λ t. if t then record s { listed = true } else s)
    (and-true _ _ ((bytes_eq-Decides (user_of a.bare) (user_of a.bare)).1 refl) (same_address-refl b.bare))

contact-other : (a b : User) → Apart a.bare b.bare → (s : Side) (listed : Bool) → after b.bare a.bare s (made_if a b listed) ≡ s
contact-other a b p s true = refl
contact-other a b p s false =
    let user = bytes_eq (user_of a.bare) (user_of b.bare) in
    ap (λ t. if user && t then record s { listed = true } else s) p.apart ∙ ap (λ t. if t then record s { listed = true } else s) (and-never user)

-- The rows. Of each, what stands first makes the side.

two-quiet : (x y : Address) (s : Side) (xs one two : List Effect) → Quiet x y one → Quiet x y two → after x y s (xs ++ one ++ two) ≡ after x y s xs
two-quiet x y s xs one two p q = quiet-end x y s (xs ++ one) two q ∙ quiet-end x y s xs one p

row-subscribe : (x y : Address) (a b : User) (m : Side) (o : Outcome) (s : Side)
    → after x y s (row_subscribe a b m o) ≡ after x y s (made a b m o ++ asked a.bare b.bare true ∷ [])
row-subscribe x y a b m o s =
    two-quiet x y s (made a b m o ++ asked a.bare b.bare true ∷ []) (pushed_mine a b o) (delivered Subscribe a.bare b.sessions)
    (quiet-mine x y a b o) (quiet-delivered x y Subscribe a.bare b.sessions)

row-subscribed : (x y : Address) (a b : User) (m : Side) (o : Outcome) (s : Side)
    → after x y s (row_subscribed a b m o) ≡ after x y s (asked b.bare a.bare false ∷ sees b.bare a.bare true ∷ made a b m o)
row-subscribed x y a b m o s =
    let first = asked b.bare a.bare false ∷ sees b.bare a.bare true ∷ made a b m o in
    let sent = delivered Subscribed a.bare b.sessions in
    two-quiet x y s (first ++ sent ++ pushed_theirs a b o) (pushed_mine a b o) (shown o.show a b) (quiet-mine x y a b o) (quiet-shown x y o.show a b)
    ∙ two-quiet x y s first sent (pushed_theirs a b o) (quiet-delivered x y Subscribed a.bare b.sessions) (quiet-theirs x y a b o)

row-unsubscribe : (x y : Address) (a b : User) (o : Outcome) (s : Side)
    → after x y s (row_unsubscribe a b o) ≡ after x y s (sees a.bare b.bare false ∷ asked a.bare b.bare false ∷ [])
row-unsubscribe x y a b o s =
    let first : List Effect = sees a.bare b.bare false ∷ asked a.bare b.bare false ∷ [] in
    let sent = delivered Unsubscribe a.bare b.sessions in
    two-quiet x y s (first ++ sent ++ pushed_mine a b o) (pushed_theirs a b o) (shown o.show a b) (quiet-theirs x y a b o) (quiet-shown x y o.show a b)
    ∙ two-quiet x y s first sent (pushed_mine a b o) (quiet-delivered x y Unsubscribe a.bare b.sessions) (quiet-mine x y a b o)

row-unsubscribed : (x y : Address) (a b : User) (o : Outcome) (s : Side)
    → after x y s (row_unsubscribed a b o) ≡ after x y s (sees b.bare a.bare false ∷ asked b.bare a.bare false ∷ [])
row-unsubscribed x y a b o s =
    let first : List Effect = sees b.bare a.bare false ∷ asked b.bare a.bare false ∷ [] in
    let sent = delivered Unsubscribed a.bare b.sessions in
    two-quiet x y s (first ++ sent ++ pushed_theirs a b o) (pushed_mine a b o) (shown o.show a b) (quiet-mine x y a b o) (quiet-shown x y o.show a b)
    ∙ two-quiet x y s first sent (pushed_theirs a b o) (quiet-delivered x y Unsubscribed a.bare b.sessions) (quiet-theirs x y a b o)

-- what the sender's side becomes

abbrev Mine : User → User → Side → Outcome → Type 0
Mine a b m o = after a.bare b.bare m (effects_of a b m o) ≡ o.mine

mine-requested : (a b : User) → Apart a.bare b.bare → (m t : Side) → Mine a b m (requested m t)
mine-requested a b p m t =
    row-subscribe a.bare b.bare a b m (requested m t) m
    ∙ after-append a.bare b.bare m (made_if a b m.listed) (asked a.bare b.bare true ∷ [])
    ∙ ap (λ s. after a.bare b.bare s (asked a.bare b.bare true ∷ [])) (contact-own a b m m.listed refl)
    ∙ asked-own a.bare b.bare p (record m { listed = true }) true []

mine-approved : (a b : User) → Apart a.bare b.bare → (m t : Side) → Mine a b m (approved m t)
mine-approved a b p m t =
    row-subscribed a.bare b.bare a b m (approved m t) m
    ∙ asked-other a.bare b.bare p m false (sees b.bare a.bare true ∷ made_if a b m.listed)
    ∙ saw-other a.bare b.bare p (record m { asked_by = false }) true (made_if a b m.listed)
    ∙ contact-own a b (record m { asked_by = false; seen = true }) m.listed refl

mine-withdrawn : (a b : User) → Apart a.bare b.bare → (m t : Side) → Mine a b m (withdrawn m t)
mine-withdrawn a b p m t =
    row-unsubscribe a.bare b.bare a b (withdrawn m t) m
    ∙ saw-own a.bare b.bare p m false (asked a.bare b.bare false ∷ [])
    ∙ asked-own a.bare b.bare p (record m { sees = false }) false []

mine-cancelled : (a b : User) → Apart a.bare b.bare → (m t : Side) → Mine a b m (cancelled m t)
mine-cancelled a b p m t =
    row-unsubscribed a.bare b.bare a b (cancelled m t) m
    ∙ saw-other a.bare b.bare p m false (asked b.bare a.bare false ∷ [])
    ∙ asked-other a.bare b.bare p (record m { seen = false }) false []

-- and what the other's becomes

abbrev Theirs : User → User → Side → Side → Outcome → Type 0
Theirs a b m t o = after b.bare a.bare t (effects_of a b m o) ≡ o.theirs

theirs-requested : (a b : User) → Apart a.bare b.bare → Apart b.bare a.bare → (m t : Side) → Theirs a b m t (requested m t)
theirs-requested a b p q m t =
    row-subscribe b.bare a.bare a b m (requested m t) t
    ∙ after-append b.bare a.bare t (made_if a b m.listed) (asked a.bare b.bare true ∷ [])
    ∙ ap (λ s. after b.bare a.bare s (asked a.bare b.bare true ∷ [])) (contact-other a b p t m.listed)
    ∙ asked-other b.bare a.bare q t true []

theirs-approved : (a b : User) → Apart a.bare b.bare → Apart b.bare a.bare → (m t : Side) → Theirs a b m t (approved m t)
theirs-approved a b p q m t =
    row-subscribed b.bare a.bare a b m (approved m t) t
    ∙ asked-own b.bare a.bare q t false (sees b.bare a.bare true ∷ made_if a b m.listed)
    ∙ saw-own b.bare a.bare q (record t { asked = false }) true (made_if a b m.listed)
    ∙ contact-other a b p (record t { asked = false; sees = true }) m.listed

theirs-withdrawn : (a b : User) → Apart b.bare a.bare → (m t : Side) → Theirs a b m t (withdrawn m t)
theirs-withdrawn a b q m t =
    row-unsubscribe b.bare a.bare a b (withdrawn m t) t
    ∙ saw-other b.bare a.bare q t false (asked a.bare b.bare false ∷ [])
    ∙ asked-other b.bare a.bare q (record t { seen = false }) false []

theirs-cancelled : (a b : User) → Apart b.bare a.bare → (m t : Side) → Theirs a b m t (cancelled m t)
theirs-cancelled a b q m t =
    row-unsubscribed b.bare a.bare a b (cancelled m t) t
    ∙ saw-own b.bare a.bare q t false (asked b.bare a.bare false ∷ [])
    ∙ asked-own b.bare a.bare q (record t { sees = false }) false []

either : (P : Outcome → Type 0) (c : Bool) (one other : Outcome) → P one → P other → P (if c then one else other)
either P true one other p q = p
either P false one other p q = q

pub after-effects-mine : (a b : User) (mine theirs : Side) (form : PresenceForm) → same_address a.bare b.bare ≡ false
    → after a.bare b.bare mine (effects_of a b mine (outbound mine theirs form)) ≡ (outbound mine theirs form).mine
after-effects-mine a b m t Subscribe e =
    either (Mine a b m) m.sees (answered m t) (requested m t) (quiet-delivered a.bare b.bare Subscribed b.bare a.sessions m)
    (mine-requested a b (apart-from a.bare b.bare e) m t)
after-effects-mine a b m t Subscribed e = either (Mine a b m) m.asked_by (approved m t) (unchanged m t) (mine-approved a b (apart-from a.bare b.bare e) m t)
    refl
after-effects-mine a b m t Unsubscribe e =
    either (Mine a b m) (m.sees || m.asked) (withdrawn m t) (unchanged m t) (mine-withdrawn a b (apart-from a.bare b.bare e) m t) refl
after-effects-mine a b m t Unsubscribed e =
    either (Mine a b m) (m.seen || m.asked_by) (cancelled m t) (unchanged m t) (mine-cancelled a b (apart-from a.bare b.bare e) m t) refl
after-effects-mine a b m t Available e = refl
after-effects-mine a b m t Unavailable e = refl
after-effects-mine a b m t Probe e = refl
after-effects-mine a b m t Error e = refl

pub after-effects-theirs : (a b : User) (mine theirs : Side) (form : PresenceForm) → same_address a.bare b.bare ≡ false
    → after b.bare a.bare theirs (effects_of a b mine (outbound mine theirs form)) ≡ (outbound mine theirs form).theirs
after-effects-theirs a b m t form e = by form (apart-from a.bare b.bare e) (apart-from b.bare a.bare (other-way a.bare b.bare e))
  where
    by : (form : PresenceForm) → Apart a.bare b.bare → Apart b.bare a.bare → Theirs a b m t (outbound m t form)
    by Subscribe p q =
        either (Theirs a b m t) m.sees (answered m t) (requested m t) (quiet-delivered b.bare a.bare Subscribed b.bare a.sessions t)
        (theirs-requested a b p q m t)
    by Subscribed p q = either (Theirs a b m t) m.asked_by (approved m t) (unchanged m t) (theirs-approved a b p q m t) refl
    by Unsubscribe p q = either (Theirs a b m t) (m.sees || m.asked) (withdrawn m t) (unchanged m t) (theirs-withdrawn a b q m t) refl
    by Unsubscribed p q = either (Theirs a b m t) (m.seen || m.asked_by) (cancelled m t) (unchanged m t) (theirs-cancelled a b q m t) refl
    by Available p q = refl
    by Unavailable p q = refl
    by Probe p q = refl
    by Error p q = refl

-- A removal.

first-mine : (m t : Side) → (outbound m t Unsubscribe).mine ≡ record m { sees = false; asked = false }
first-mine m t = by m.sees m.asked m.seen m.asked_by m.listed
  where
    by : (sees asked seen asked_by listed : Bool)
        → (outbound (record { sees = sees; seen = seen; asked = asked; asked_by = asked_by; listed = listed }) t Unsubscribe).mine
        ≡ record { sees = false; seen = seen; asked = false; asked_by = asked_by; listed = listed }
    by true asked seen asked_by listed = refl
    by false true seen asked_by listed = refl
    by false false seen asked_by listed = refl

second-mine : (m t : Side) → (outbound m t Unsubscribed).mine ≡ record m { seen = false; asked_by = false }
second-mine m t = by m.seen m.asked_by m.sees m.asked m.listed
  where
    by : (seen asked_by sees asked listed : Bool)
        → (outbound (record { sees = sees; seen = seen; asked = asked; asked_by = asked_by; listed = listed }) t Unsubscribed).mine
        ≡ record { sees = sees; seen = false; asked = asked; asked_by = false; listed = listed }
    by true asked_by sees asked listed = refl
    by false true sees asked listed = refl
    by false false sees asked listed = refl

abbrev Untold : User → Side → User → Outcome → Type 0
Untold a m b o = after a.bare b.bare m (effects_of a b m (untold o)) ≡ o.mine

untold-withdrawn : (a b : User) → Apart a.bare b.bare → (m t : Side) → Untold a m b (withdrawn m t)
untold-withdrawn a b p m t =
    row-unsubscribe a.bare b.bare a b (untold (withdrawn m t)) m
    ∙ saw-own a.bare b.bare p m false (asked a.bare b.bare false ∷ [])
    ∙ asked-own a.bare b.bare p (record m { sees = false }) false []

untold-cancelled : (a b : User) → Apart a.bare b.bare → (m t : Side) → Untold a m b (cancelled m t)
untold-cancelled a b p m t =
    row-unsubscribed a.bare b.bare a b (untold (cancelled m t)) m
    ∙ saw-other a.bare b.bare p m false (asked b.bare a.bare false ∷ [])
    ∙ asked-other a.bare b.bare p (record m { seen = false }) false []

untold-first : (a b : User) → Apart a.bare b.bare → (m t : Side) → Untold a m b (outbound m t Unsubscribe)
untold-first a b p m t = either (Untold a m b) (m.sees || m.asked) (withdrawn m t) (unchanged m t) (untold-withdrawn a b p m t) refl

untold-second : (a b : User) → Apart a.bare b.bare → (m t : Side) → Untold a m b (outbound m t Unsubscribed)
untold-second a b p m t = either (Untold a m b) (m.seen || m.asked_by) (cancelled m t) (unchanged m t) (untold-cancelled a b p m t) refl

then-after : (a b : User) → Apart a.bare b.bare → (first : Outcome)
    → after a.bare b.bare first.mine (then_cancelled a b first) ≡ (outbound first.mine first.theirs Unsubscribed).mine
then-after a b p first = by first.push_theirs
  where
    told_so : User
    told_so = record b { sessions = map told b.sessions }

    second : Outcome
    second = outbound first.mine first.theirs Unsubscribed

    by : (c : Bool) → after a.bare b.bare first.mine (effects_of a (if c then told_so else b) first.mine (untold second)) ≡ second.mine
    by true = untold-second a told_so p first.mine first.theirs
    by false = untold-second a b p first.mine first.theirs

abbrev without_their : Side → Side
without_their s = record s { seen = false; asked_by = false }

both-after : (a b : User) → Apart a.bare b.bare → (m t : Side)
    → after a.bare b.bare m (both_ended a b m (outbound m t Unsubscribe)) ≡ record m { sees = false; seen = false; asked = false; asked_by = false }
both-after a b p m t =
    let first = outbound m t Unsubscribe in
    after-append a.bare b.bare m (effects_of a b m (untold first)) (then_cancelled a b first)
    ∙ ap (λ s. after a.bare b.bare s (then_cancelled a b first)) (untold-first a b p m t)
    ∙ then-after a b p first
    ∙ second-mine first.mine first.theirs
    ∙ ap without_their (first-mine m t)

pub after-removal : (a b : User) → same_bare a.bare b.bare ≡ false
    → after a.bare b.bare (side_of a b) (removal a b) ≡ record (side_of a b) { sees = false; seen = false; asked = false; asked_by = false }
after-removal a b e =
    ap (λ t. after a.bare b.bare (side_of a b) (if t then [] else both_ended a b (side_of a b) (outbound (side_of a b) (side_of b a) Unsubscribe))) e
    ∙ both-after a b (apart-from a.bare b.bare (and-false (same_bare a.bare b.bare) (same_part a.bare.resource b.bare.resource) e)) (side_of a b) (side_of b a)
