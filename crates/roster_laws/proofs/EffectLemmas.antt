-- What a list of effects notes.
use Rattle.std.proofs.Common.{◌≡◌, ℕ, List, [], ◌∷◌, ◌++◌, map, flat_map, Bool, true, false, ◌||◌, filter}
use Rattle.std.proofs.Common.{Option, Some, None, refl, sym, ap, subst, ◌∙◌, if◌then◌else◌}
use Rattle.jid_core.specs.Addresses.{Address, same_bare}
use Rattle.stanza_tree.specs.declared.node.Element.{Element}
use Rattle.stanza_model.specs.Replies.{error_of, may_be_answered, refused, result_of, said_to}
use Rattle.stanza_model.specs.Rosters.{pushes, pushes_if}
use Rattle.stanza_model.specs.Subscriptions.{cancelled, outbound, unchanged, withdrawn}
use Rattle.stanza_model.specs.declared.condition.Condition.{Condition}
use Rattle.stanza_model.specs.declared.condition.Condition.TheVariants.{BadRequest}
use Rattle.stanza_model.specs.declared.effect.Effect.{Effect}
use Rattle.stanza_model.specs.declared.effect.Effect.TheVariants.{Queue, Broadcast, Enter, Leave, Keep, Set}
use Rattle.stanza_model.specs.declared.here.Here.{Here}
use Rattle.stanza_model.specs.declared.kinds.PresenceForm.{PresenceForm}
use Rattle.stanza_model.specs.declared.kinds.PresenceForm.TheVariants.{Subscribe, Subscribed, Unsubscribe, Unsubscribed}
use Rattle.stanza_model.specs.declared.shared.Contact.{Contact}
use Rattle.stanza_model.specs.declared.shared.Outcome.{Outcome}
use Rattle.stanza_model.specs.declared.shared.Show.{Show}
use Rattle.stanza_model.specs.declared.shared.Show.TheVariants.{Nothing, MineAvailable, MineUnavailable, TheirsUnavailable}
use Rattle.stanza_model.specs.declared.shared.Side.{Side}
use Rattle.stanza_model.specs.declared.stanza.Stanza.{Stanza}
use Rattle.contact_table.specs.Books.{Book, Pair, Record, noted, pair_of, with_pair}
use Rattle.roster_book.specs.Items.{wanted_in}
use Rattle.roster_book.specs.Refusals.{refusal}
use Rattle.roster_book.specs.Requests.{change_of, changed_item, done, roster_set, set_wanted, unless, user_of}
use Rattle.roster_book.specs.declared.item.Wanted.{Wanted}
use Rattle.subscription_pairs.specs.Changes.{after_pushes, asked, both_ended, effects_of, made, pushed_mine, pushed_theirs, removal, row_subscribe}
use Rattle.subscription_pairs.specs.Changes.{row_subscribed, row_unsubscribe, row_unsubscribed, sees, then_cancelled, untold}
use Rattle.subscription_pairs.specs.Deliveries.{all_sent_to, available_of, delivered, receives, sent_to, shown, unavailable_of}
use Rattle.subscription_pairs.specs.Users.{User, side_of}
use Rattle.roster_laws.specs.Keeping.{noted_all}

pub noted_then : (xs ys : List Effect) (k : Book) → noted_all (xs ++ ys) k ≡ noted_all ys (noted_all xs k)
noted_then [] ys k = refl
noted_then (Set c ∷ xs) ys k = noted_then xs ys (noted c k)
noted_then (Queue s to rest origin ∷ xs) ys k = noted_then xs ys k
noted_then (Broadcast n item ∷ xs) ys k = noted_then xs ys k
noted_then (Enter n s address nick role ∷ xs) ys k = noted_then xs ys k
noted_then (Leave n s ∷ xs) ys k = noted_then xs ys k
noted_then (Keep user peer text moment ∷ xs) ys k = noted_then xs ys k

-- What is queued, and the count of pushes, note nothing.

abbrev pub IsQuiet : List Effect → Type 0
IsQuiet xs = (k : Book) → noted_all xs k ≡ k

-- what stands before quiet effects is what is noted
pub then_quiet : (xs ys : List Effect) → IsQuiet ys → (k : Book) → noted_all (xs ++ ys) k ≡ noted_all xs k
then_quiet xs ys quiet k = noted_then xs ys k ∙ quiet (noted_all xs k)

pub quiet_both : (xs ys : List Effect) → IsQuiet xs → IsQuiet ys → IsQuiet (xs ++ ys)
quiet_both xs ys one other k = then_quiet xs ys other k ∙ one k

pub quiet_map : {X : Type 0} (f : X → Effect) → ((x : X) → IsQuiet (f x ∷ [])) → (xs : List X) → IsQuiet (map f xs)
quiet_map f quiet [] k = refl
quiet_map f quiet (x ∷ xs) k = quiet_both (f x ∷ []) (map f xs) (quiet x) (quiet_map f quiet xs) k

quiet_flat_map : {X : Type 0} (f : X → List Effect) → ((x : X) → IsQuiet (f x)) → (xs : List X) → IsQuiet (flat_map f xs)
quiet_flat_map f quiet [] k = refl
quiet_flat_map f quiet (x ∷ xs) k = quiet_both (f x) (flat_map f xs) (quiet x) (quiet_flat_map f quiet xs) k

pub quiet_either : (b : Bool) (xs ys : List Effect) → IsQuiet xs → IsQuiet ys → IsQuiet (if b then xs else ys)
quiet_either true xs ys one other k = one k
quiet_either false xs ys one other k = other k

pub quiet_if : (b : Bool) (xs : List Effect) → IsQuiet xs → IsQuiet (if b then xs else [])
quiet_if b xs quiet = quiet_either b xs [] quiet (λ k. refl)

pub quiet_refused : (who : Here) (st : Stanza) (condition : Condition) → IsQuiet (refused who st condition)
quiet_refused who st condition = quiet_if (may_be_answered st) (said_to who (error_of st condition) ∷ []) (λ k. refl)

pub quiet_pushes : (sessions : List Here) (x : Element) → IsQuiet (pushes sessions x)
quiet_pushes sessions x = quiet_flat_map (λ h. pushes_if h.wants_roster h x) (λ h. by h.wants_roster h) sessions
  where
    by : (b : Bool) (h : Here) → IsQuiet (pushes_if b h x)
    by true h k = refl
    by false h k = refl

pub quiet_delivered : (form : PresenceForm) (address : Address) (sessions : List Here) → IsQuiet (delivered form address sessions)
quiet_delivered form address sessions = quiet_map _ (λ h k. refl) (filter (receives form) sessions)

quiet_sent : (sessions : List Here) (presences : List (List ℕ)) → IsQuiet (all_sent_to sessions presences)
quiet_sent sessions presences = quiet_flat_map (sent_to sessions) (λ p. quiet_map _ (λ h k. refl) (available_of sessions)) presences

quiet_shown : (what : Show) (a b : User) → IsQuiet (shown what a b)
quiet_shown Nothing a b k = refl
quiet_shown MineAvailable a b k = quiet_sent b.sessions a.presences k
quiet_shown MineUnavailable a b k = quiet_sent b.sessions (unavailable_of a.sessions) k
quiet_shown TheirsUnavailable a b k = quiet_sent a.sessions (unavailable_of b.sessions) k

quiet_mine : (a b : User) (o : Outcome) → IsQuiet (pushed_mine a b o)
quiet_mine a b o = quiet_if o.push_mine _ (quiet_pushes a.sessions _)

quiet_theirs : (a b : User) (o : Outcome) → IsQuiet (pushed_theirs a b o)
quiet_theirs a b o = quiet_if o.push_theirs _ (quiet_pushes b.sessions _)

-- The rows: what stands first is what is noted.

two_quiet : (xs one two : List Effect) → IsQuiet one → IsQuiet two → (k : Book) → noted_all (xs ++ one ++ two) k ≡ noted_all xs k
two_quiet xs one two p q k = then_quiet (xs ++ one) two q k ∙ then_quiet xs one p k

pub noted_subscribe : (a b : User) (m : Side) (o : Outcome) (k : Book)
    → noted_all (row_subscribe a b m o) k ≡ noted_all (made a b m o ++ asked a.bare b.bare true ∷ []) k
noted_subscribe a b m o k =
    two_quiet (made a b m o ++ asked a.bare b.bare true ∷ []) (pushed_mine a b o) (delivered Subscribe a.bare b.sessions)
    (quiet_mine a b o) (quiet_delivered Subscribe a.bare b.sessions) k

pub noted_subscribed : (a b : User) (m : Side) (o : Outcome) (k : Book)
    → noted_all (row_subscribed a b m o) k ≡ noted_all (asked b.bare a.bare false ∷ sees b.bare a.bare true ∷ made a b m o) k
noted_subscribed a b m o k =
    let first = asked b.bare a.bare false ∷ sees b.bare a.bare true ∷ made a b m o in
    let sent = delivered Subscribed a.bare b.sessions in
    two_quiet (first ++ sent ++ pushed_theirs a b o) (pushed_mine a b o) (shown o.show a b) (quiet_mine a b o) (quiet_shown o.show a b) k
    ∙ two_quiet first sent (pushed_theirs a b o) (quiet_delivered Subscribed a.bare b.sessions) (quiet_theirs a b o) k

pub noted_unsubscribe : (a b : User) (o : Outcome) (k : Book)
    → noted_all (row_unsubscribe a b o) k ≡ noted_all (sees a.bare b.bare false ∷ asked a.bare b.bare false ∷ []) k
noted_unsubscribe a b o k =
    let first : List Effect = sees a.bare b.bare false ∷ asked a.bare b.bare false ∷ [] in
    let sent = delivered Unsubscribe a.bare b.sessions in
    two_quiet (first ++ sent ++ pushed_mine a b o) (pushed_theirs a b o) (shown o.show a b) (quiet_theirs a b o) (quiet_shown o.show a b) k
    ∙ two_quiet first sent (pushed_mine a b o) (quiet_delivered Unsubscribe a.bare b.sessions) (quiet_mine a b o) k

pub noted_unsubscribed : (a b : User) (o : Outcome) (k : Book)
    → noted_all (row_unsubscribed a b o) k ≡ noted_all (sees b.bare a.bare false ∷ asked b.bare a.bare false ∷ []) k
noted_unsubscribed a b o k =
    let first : List Effect = sees b.bare a.bare false ∷ asked b.bare a.bare false ∷ [] in
    let sent = delivered Unsubscribed a.bare b.sessions in
    two_quiet (first ++ sent ++ pushed_theirs a b o) (pushed_mine a b o) (shown o.show a b) (quiet_mine a b o) (quiet_shown o.show a b) k
    ∙ two_quiet first sent (pushed_theirs a b o) (quiet_delivered Unsubscribed a.bare b.sessions) (quiet_theirs a b o) k

-- A property of lists of effects that the rows of an end have, a removal has.

module _ (Q : List Effect → Type 0) (nothing : Q []) (both : (xs ys : List Effect) → Q xs → Q ys → Q (xs ++ ys))
    (unsubscribes : (a b : User) (o : Outcome) → Q (row_unsubscribe a b o)) (unsubscribed : (a b : User) (o : Outcome) → Q (row_unsubscribed a b o)) where
  pub of_first : (a b : User) (m t : Side) → Q (effects_of a b m (untold (outbound m t Unsubscribe)))
  of_first a b m t = by (m.sees || m.asked)
    where
      by : (c : Bool) → Q (effects_of a b m (untold (if c then withdrawn m t else unchanged m t)))
      by true = unsubscribes a b (untold (withdrawn m t))
      by false = nothing

  pub of_second : (a b : User) (m t : Side) → Q (effects_of a b m (untold (outbound m t Unsubscribed)))
  of_second a b m t = by (m.seen || m.asked_by)
    where
      by : (c : Bool) → Q (effects_of a b m (untold (if c then cancelled m t else unchanged m t)))
      by true = unsubscribed a b (untold (cancelled m t))
      by false = nothing

  pub of_removal : (a b : User) → Q (removal a b)
  of_removal a b = by (same_bare a.bare b.bare)
    where
      by : (c : Bool) → Q (if c then [] else both_ended a b (side_of a b) (outbound (side_of a b) (side_of b a) Unsubscribe))
      by true = nothing
      by false =
          let first = outbound (side_of a b) (side_of b a) Unsubscribe in
          both (effects_of a b (side_of a b) (untold first)) (then_cancelled a b first) (of_first a b (side_of a b) (side_of b a))
          (of_second a (after_pushes first b) first.mine first.theirs)

-- A property of books that stands when a pair goes.

module _ (P : Book → Type 0) (ends : (k : Book) (p : Pair) → P k → P (record k { sees = with_pair p false k.sees; asked = with_pair p false k.asked })) where
  abbrev Keeps : List Effect → Type 0
  Keeps xs = (k : Book) → P k → P (noted_all xs k)

  keeps_both : (xs ys : List Effect) → Keeps xs → Keeps ys → Keeps (xs ++ ys)
  keeps_both xs ys one other k is = subst P (sym (noted_then xs ys k)) (other (noted_all xs k) (one k is))

  pub kept_by_unsubscribe : (a b : User) (o : Outcome) → Keeps (row_unsubscribe a b o)
  kept_by_unsubscribe a b o k is = subst P (sym (noted_unsubscribe a b o k)) (ends k (pair_of a.bare b.bare) is)

  pub kept_by_unsubscribed : (a b : User) (o : Outcome) → Keeps (row_unsubscribed a b o)
  kept_by_unsubscribed a b o k is = subst P (sym (noted_unsubscribed a b o k)) (ends k (pair_of b.bare a.bare) is)

  pub kept_by_first : (a b : User) (m t : Side) → Keeps (effects_of a b m (untold (outbound m t Unsubscribe)))
  kept_by_first = of_first Keeps (λ k is. is) keeps_both kept_by_unsubscribe kept_by_unsubscribed

  pub kept_by_second : (a b : User) (m t : Side) → Keeps (effects_of a b m (untold (outbound m t Unsubscribed)))
  kept_by_second = of_second Keeps (λ k is. is) keeps_both kept_by_unsubscribe kept_by_unsubscribed

  pub kept_by_removal : (a b : User) → Keeps (removal a b)
  kept_by_removal = of_removal Keeps (λ k is. is) keeps_both kept_by_unsubscribe kept_by_unsubscribed

-- What notes nothing of contacts, and what notes nothing of pairs, can change places.

abbrev OnlyPairs : List Effect → Type 0
OnlyPairs xs = (k : Book) (rs : List Record) → noted_all xs (record k { records = rs }) ≡ record (noted_all xs k) { records = rs }

pub removal_beside : (a b : User) → OnlyPairs (removal a b)
removal_beside = of_removal OnlyPairs (λ k rs. refl) both unsubscribes unsubscribed
  where
    both : (xs ys : List Effect) → OnlyPairs xs → OnlyPairs ys → OnlyPairs (xs ++ ys)
    both xs ys one other k rs =
        noted_then xs ys (record k { records = rs }) ∙ ap (noted_all ys) (one k rs) ∙ other (noted_all xs k) rs
        ∙ sym (ap (λ (n : Book). record n { records = rs }) (noted_then xs ys k))

    unsubscribes : (a b : User) (o : Outcome) → OnlyPairs (row_unsubscribe a b o)
    unsubscribes a b o k rs =
        noted_unsubscribe a b o (record k { records = rs }) ∙ sym (ap (λ (n : Book). record n { records = rs }) (noted_unsubscribe a b o k))

    unsubscribed : (a b : User) (o : Outcome) → OnlyPairs (row_unsubscribed a b o)
    unsubscribed a b o k rs =
        noted_unsubscribed a b o (record k { records = rs }) ∙ sym (ap (λ (n : Book). record n { records = rs }) (noted_unsubscribed a b o k))

abbrev OnlyRecords : List Effect → Type 0
OnlyRecords xs =
    (k : Book) (seen asks : List Pair) → noted_all xs (record k { sees = seen; asked = asks }) ≡ record (noted_all xs k) { sees = seen; asked = asks }

quiet_records : (xs : List Effect) → IsQuiet xs → OnlyRecords xs
quiet_records xs quiet k seen asks =
    quiet (record k { sees = seen; asked = asks }) ∙ sym (ap (λ (n : Book). record n { sees = seen; asked = asks }) (quiet k))

-- a set that isn't refused notes the one change
pub noted_done : (owner : Address) (contacts : List Contact) (who : Here) (own : List Here) (st : Stanza) (w : Wanted) (k : Book)
    → noted_all (done owner contacts who own st w) k ≡ noted (change_of w.remove (user_of owner) w.contact) k
noted_done owner contacts who own st w k =
    let new = noted (change_of w.remove (user_of owner) w.contact) k in
    let told = pushes own (changed_item w.remove contacts w.contact) in
    then_quiet told (said_to who (result_of st []) ∷ []) (λ k. refl) new ∙ quiet_pushes own (changed_item w.remove contacts w.contact) new

set_beside : (owner : Address) (contacts : List Contact) (who : Here) (own : List Here) (st : Stanza)
    → OnlyRecords (roster_set owner contacts who own st)
set_beside owner contacts who own st = by (wanted_in owner st)
  where
    change : (remove : Bool) (user : List ℕ) (x : Contact) (k : Book) (seen asks : List Pair)
        → noted (change_of remove user x) (record k { sees = seen; asked = asks }) ≡ record (noted (change_of remove user x) k) { sees = seen; asked = asks }
    change false user x k seen asks = refl
    change true user x k seen asks = refl

    by_refusal : (w : Wanted) (r : Option Condition) → OnlyRecords (unless r who st (done owner contacts who own st w))
    by_refusal w (Some condition) k seen asks = quiet_records (refused who st condition) (quiet_refused who st condition) k seen asks
    by_refusal w None k seen asks =
        noted_done owner contacts who own st w (record k { sees = seen; asked = asks })
        ∙ change w.remove (user_of owner) w.contact k seen asks
        ∙ sym (ap (λ (n : Book). record n { sees = seen; asked = asks }) (noted_done owner contacts who own st w k))

    by : (o : Option Wanted) → OnlyRecords (set_wanted owner contacts who own st o)
    by None k seen asks = quiet_records (refused who st BadRequest) (quiet_refused who st BadRequest) k seen asks
    by (Some w) k seen asks = by_refusal w (refusal contacts w) k seen asks

pub either_order : (a b : User) (owner : Address) (contacts : List Contact) (who : Here) (own : List Here) (st : Stanza) (k : Book)
    → noted_all (removal a b ++ roster_set owner contacts who own st) k ≡ noted_all (roster_set owner contacts who own st ++ removal a b) k
either_order a b owner contacts who own st k =
    let r = removal a b in
    let s = roster_set owner contacts who own st in
    let ended = noted_all r k in
    let set_first = noted_all s k in
    let same_records = removal_beside a b k k.records in
    let same_pairs = set_beside owner contacts who own st k k.sees k.asked in
    noted_then r s k
    ∙ ap (noted_all s) same_records
    ∙ set_beside owner contacts who own st k ended.sees ended.asked
    ∙ sym (removal_beside a b k set_first.records)
    ∙ sym (ap (noted_all r) same_pairs)
    ∙ sym (noted_then s r k)
