-- What comes of a request about affiliations, and of an invitation, keeps the affiliations of the room to their limit: an item that isn't
-- refused isn't too large in the room as it is when its turn comes.
use Rattle.std.proofs.Common.{◌≡◌, ℕ, List, [], ◌∷◌, ◌++◌, map, length, sum, ◌&&◌, not, sym, refl, ap, ◌∙◌, subst, append_assoc, inl, inr, codes}
use Rattle.std.proofs.Common.{Bool, true, false, Option, Some, None, IfSome, if◌then◌else◌}
use Rattle.std.specs.Prelude.{⊤}
use Rattle.std.specs.List.{AllByRecursion, list_any}
use Rattle.std.proofs.lemmas.Bool.{cases_lt, lt-ltb}
use Rattle.jid_core.specs.Addresses.{Address}
use Rattle.stanza_tree.specs.Attributes.{attr_of}
use Rattle.stanza_tree.specs.Spelling.{text}
use Rattle.stanza_tree.specs.declared.node.Element.{Element}
use Rattle.stanza_model.specs.Replies.{may_be_answered, error_of, refused, result_of, said_to}
use Rattle.stanza_model.specs.Rooms.{affiliation_named, role_named}
use Rattle.stanza_model.specs.declared.condition.Condition.{Condition}
use Rattle.stanza_model.specs.declared.condition.Condition.TheVariants.{BadRequest, Forbidden, NotAcceptable, ResourceConstraint}
use Rattle.stanza_model.specs.declared.effect.Change.{Change}
use Rattle.stanza_model.specs.declared.effect.Change.TheVariants as change
use Rattle.stanza_model.specs.declared.effect.Effect.{Effect}
use Rattle.stanza_model.specs.declared.effect.Effect.TheVariants.{Queue, Broadcast, Enter, Leave, Keep, Set}
use Rattle.stanza_model.specs.declared.here.Here.{Here}
use Rattle.stanza_model.specs.declared.kinds.IqForm.{IqForm}
use Rattle.stanza_model.specs.declared.kinds.IqForm.TheVariants as iq
use Rattle.stanza_model.specs.declared.room.Affiliated.{Affiliated}
use Rattle.stanza_model.specs.declared.room.Affiliation.{Affiliation}
use Rattle.stanza_model.specs.declared.room.Affiliation.TheVariants.{Member}
use Rattle.stanza_model.specs.declared.room.Occupant.{Occupant}
use Rattle.stanza_model.specs.declared.room.Role.{Role}
use Rattle.stanza_model.specs.declared.room.Role.TheVariants.{Moderator, Participant, Visitor, Nobody}
use Rattle.stanza_model.specs.declared.room.Room.{Room}
use Rattle.stanza_model.specs.declared.room.Seat.{Seat}
use Rattle.stanza_model.specs.declared.stanza.Stanza.{Stanza}
use Rattle.stanza_model.specs.declared.stanza.Stanza.TheVariants.{Message, Presence, Iq, Faulty}
use Rattle.muc_roles.specs.Roles.{governs}
use Rattle.muc_room.specs.Entering.{or_else, unless_refused}
use Rattle.muc_room.specs.Seats.{affiliation_in, affiliation_of, holder_of, occupant_of}
use Rattle.muc_room.specs.States.{is_of, set_affiliation, with_affiliation}
use Rattle.muc_admin.specs.Administration as administration
use Rattle.muc_admin.specs.Administration.{admin, admin_as, admin_by, is_wrong_count, list_affiliation, list_as, list_by, list_role, set_wanted}
use Rattle.muc_admin.specs.Afterwards.{after, after_role, changed_by, speakers, with_role, with_roles, with_user}
use Rattle.muc_owner.specs.Invitations.{has_call, invitation_of}
use Rattle.muc_owner.specs.Inviting as inviting
use Rattle.muc_owner.specs.Inviting.{becomes_member, called, called_by, called_in, copies, decline_nodes, invite, invite_nodes, invite_refusal}
use Rattle.muc_owner.specs.Inviting.{invites, made_member, may_call, message_with}
use Rattle.muc_admin.specs.Items.{is_garbled, items_of, only_item, wanted_by}
use Rattle.muc_admin.specs.Listings as listings
use Rattle.muc_admin.specs.Listings.{is_same_affiliation, is_same_role}
use Rattle.muc_admin.specs.Refusals.{is_moderating, refusal, refused_by, too_large, verdict_on}
use Rattle.muc_admin.specs.Sets.{after_all, all_effects, done, first_refusal, gone_if_left, has_occupants}
use Rattle.muc_admin.specs.Telling.{affiliation_told, all_told, effects_of, kicked, leaving, new_role, removal_code, role_told, told, told_if}
use Rattle.muc_owner.specs.declared.invitation.Invitation.{Invitation}
use Rattle.muc_admin.specs.declared.item.Wanted.{Wanted}
use Rattle.muc_admin.specs.declared.item.Wanted.TheVariants as wanted
use Rattle.muc_service.specs.Rooms.{Hosted, Rooms, hosted_as, step}
use Rattle.house_model.specs.Fitting.{IsShortAddress}
use Rattle.house_model.proofs.AffiliationSums.{AllKeepSums, ChangeKeepsSum, IsModest, KeepsSum, Knows, Tame, affiliated_knows, affiliated_sum, tame_then}
use Rattle.house_model.proofs.Founds.{append_all, either_all}
use Rattle.house_model.proofs.StayLemmas.{choose}

-- Effects that set no affiliation: a room that is made has an owner whose address is short.

abbrev pub MildChange : Change → Type 0
MildChange (change.RoomMade n address owner) = IsShortAddress owner
MildChange (change.Affiliated n address a) = ⊥
MildChange c = ⊤

abbrev pub Mild : Effect → Type 0
Mild (Queue s to rest origin) = ⊤
Mild (Broadcast n item) = ⊤
Mild (Enter n s address nick role) = ⊤
Mild (Leave n s) = ⊤
Mild (Keep user peer text moment) = ⊤
Mild (Set c) = MildChange c

set_mild : (rooms : Rooms) (c : Change) → MildChange c → ChangeKeepsSum rooms c
set_mild rooms (change.RoomMade n address owner) mild = mild
set_mild rooms (change.Affiliated n address a) mild = absurd mild
set_mild rooms c mild = tt

one_mild : (rooms : Rooms) (e : Effect) → Mild e → KeepsSum rooms e
one_mild rooms (Queue s to rest origin) mild = tt
one_mild rooms (Broadcast n item) mild = tt
one_mild rooms (Enter n s address nick role) mild = tt
one_mild rooms (Leave n s) mild = tt
one_mild rooms (Keep user peer text moment) mild = tt
one_mild rooms (Set c) mild = set_mild rooms c mild

pub mild_sums : (es : List Effect) (rooms : Rooms) → AllByRecursion Mild es → AllKeepSums rooms es
mild_sums [] rooms mild = tt
mild_sums (e ∷ es) rooms mild = (one_mild rooms e mild.0, mild_sums es (step e rooms) mild.1)

pub refused_mild : (who : Here) (st : Stanza) (c : Condition) → AllByRecursion Mild (refused who st c)
refused_mild who st c = either_all Mild (may_be_answered st) (said_to who (error_of st c) ∷ []) [] (tt, tt) tt

-- an effect that a refusal stands in the way of
unless_sums : (rooms : Rooms) (who : Here) (st : Stanza) (c : Option Condition) (es : List Effect) → (c ≡ None → AllKeepSums rooms es)
    → AllKeepSums rooms (unless_refused who st c es)
unless_sums rooms who st None es keeps = keeps refl
unless_sums rooms who st (Some c) es keeps = mild_sums (refused who st c) rooms (refused_mild who st c)

-- what is told to those who are in the room

seats_tame : (n : ℕ) (xs : List Seat) → AllByRecursion Tame (map (leaving n) xs)
seats_tame n [] = tt
seats_tame n (x ∷ xs) = (tt, seats_tame n xs)

told_tame : (r : Room) (o : Occupant) (a : Affiliation) (role : Role) (code : ℕ) → AllByRecursion Tame (told r o a role code)
told_tame r o a Nobody code = (tt, seats_tame r.number o.seats)
told_tame r o a Moderator code = (tt, (tt, tt))
told_tame r o a Participant code = (tt, (tt, tt))
told_tame r o a Visitor code = (tt, (tt, tt))

role_tame : (r : Room) (role : Role) (o : Option Occupant) → AllByRecursion Tame (role_told r role o)
role_tame r role None = tt
role_tame r role (Some o) = either_all Tame (is_same_role o.role role) [] _ tt (told_tame r o o.affiliation role kicked)

all_told_tame : (r : Room) (address : Address) (a : Affiliation) (os : List Occupant) → AllByRecursion Tame (all_told r address a os)
all_told_tame r address a [] = tt
all_told_tame r address a (o ∷ os) =
    append_all Tame (told_if r address a o) (all_told r address a os)
    (either_all Tame (is_of address o) _ [] (told_tame r o a (new_role r.config a) (removal_code a)) tt) (all_told_tame r address a os)

-- a refusal that isn't there

or_none : (a b : Option Condition) → or_else a b ≡ None → (a ≡ None) × (b ≡ None)
or_none None b is = (refl, is)
or_none (Some c) b is = absurd (let z : Some c ≡ None = is in cc)

abbrev large_if : Bool → Option Condition
large_if b = if b then Some ResourceConstraint else None

modest_of : (known : List Affiliated) → too_large known ≡ None → IsModest known
modest_of known is =
    let bytes : ℕ = sum (map listings.counted known) in
    elim (cases_lt listings.most_text bytes) [
      | inl long ↦ absurd (let z : Some ResourceConstraint ≡ None = ap large_if (sym (lt-ltb listings.most_text bytes long)) ∙ is in cc)
      | inr few ↦ few
    ]

-- A room of this number and of these affiliations.

abbrev Has : ℕ → List Affiliated → Room → Type 0
Has m l r = (r.number ≡ m) × (r.affiliations ≡ l)

module _ (m : ℕ) where
  with_has : (l : List Affiliated) (s : ℕ) (role : Role) (r : Room) → Has m l r → Has m l (with_role s role r)
  with_has l s Nobody r has = has
  with_has l s Moderator r has = has
  with_has l s Participant r has = has
  with_has l s Visitor r has = has

  all_with_has : (l : List Affiliated) (ss : List ℕ) (role : Role) (r : Room) → Has m l r → Has m l (with_roles ss role r)
  all_with_has l [] role r has = has
  all_with_has l (s ∷ ss) role r has = all_with_has l ss role (with_role s role r) (with_has l s role r has)

  role_has : (l : List Affiliated) (role : Role) (s : Option ℕ) (r : Room) → Has m l r → Has m l (after_role role s r)
  role_has l role None r has = has
  role_has l role (Some s) r has = with_has l s role r has

  user_has : (l : List Affiliated) (address : Address) (a : Affiliation) (r : Room) → Has m l r → Has m (with_affiliation address a l) (with_user address a r)
  user_has l address a r has =
      all_with_has (with_affiliation address a l) (speakers address r.occupants) (new_role r.config a) (set_affiliation address a r)
      (has.0, ap (with_affiliation address a) has.1)

  -- what follows keeps the sums in the rooms in which the room is as it is afterwards
  abbrev Follows : Room → List Effect → Type 0
  Follows r more = (l : List Affiliated) (rs : Rooms) → Has m l r → Knows m l rs.hosted → AllKeepSums rs more

  affiliation_sums : (l : List Affiliated) (address : Address) (a : Affiliation) (r : Room) (rooms : Rooms) (more : List Effect) → Has m l r
      → IsModest (with_affiliation address a r.affiliations) → Knows m l rooms.hosted
      → ((rs : Rooms) → Knows m (with_affiliation address a l) rs.hosted → AllKeepSums rs more)
      → AllKeepSums rooms (affiliation_told r address a ++ more)
  affiliation_sums l address a r rooms more has few is later =
      subst (λ (n : ℕ). AllKeepSums rooms (Set (change.Affiliated n address a) ∷ (all_told r address a r.occupants ++ more))) (sym has.0) (
        affiliated_sum m l address a rooms is (subst (λ (k : List Affiliated). IsModest (with_affiliation address a k)) has.1 few),
        tame_then m (with_affiliation address a l) (all_told r address a r.occupants) (all_told_tame r address a r.occupants)
            (step (Set (change.Affiliated m address a)) rooms) more (affiliated_knows m l address a rooms is) later,
      )

  item_sums : (l : List Affiliated) (who : Here) (w : Wanted) (r : Room) (rooms : Rooms) (more : List Effect) → Has m l r → refusal r who w ≡ None
      → Knows m l rooms.hosted → Follows (after w r) more → AllKeepSums rooms (effects_of r w ++ more)
  item_sums l who (wanted.Role nick role) r rooms more has right is later =
      tame_then m l (role_told r role (holder_of nick r.occupants)) (role_tame r role (holder_of nick r.occupants)) rooms more is
      (λ rs now. later l rs (role_has l role (changed_by role (holder_of nick r.occupants)) r has) now)
  item_sums l who (wanted.Affiliation address a) r rooms more has right is later =
      by (is_same_affiliation (affiliation_of address r.affiliations) a) later
    where
      few : IsModest (with_affiliation address a r.affiliations)
      few = modest_of (with_affiliation address a r.affiliations)
          (or_none (refused_by (verdict_on r who address a)) (too_large (with_affiliation address a r.affiliations)) right).1

      by : (same : Bool) → Follows (if same then r else with_user address a r) more
          → AllKeepSums rooms ((if same then [] else affiliation_told r address a) ++ more)
      by true follows = follows l rooms has is
      by false follows =
          affiliation_sums l address a r rooms more has few is
          (λ rs now. follows (with_affiliation address a l) rs (user_has l address a r has) now)
  item_sums l who wanted.Garbled r rooms more has right is later = later l rooms has is

  items_sums : (ws : List Wanted) (l : List Affiliated) (who : Here) (r : Room) (rooms : Rooms) (more : List Effect) → Has m l r
      → first_refusal r who ws ≡ None → Knows m l rooms.hosted → ((rs : Rooms) → AllKeepSums rs more) → AllKeepSums rooms (all_effects r ws ++ more)
  items_sums [] l who r rooms more has right is later = later rooms
  items_sums (w ∷ ws) l who r rooms more has right is later =
      let none : (refusal r who w ≡ None) × (first_refusal (after w r) who ws ≡ None) =
      or_none (refusal r who w) (first_refusal (after w r) who ws) right in
      subst (AllKeepSums rooms) (sym (append_assoc (effects_of r w) (all_effects (after w r) ws) more))
      (item_sums l who w r rooms (all_effects (after w r) ws ++ more) has none.0 is
      (λ k rs still now. items_sums ws k who (after w r) rs more still none.1 now later))

-- The tables, in a room that is there.

module _ (rooms : Rooms) (h : Hosted) (at : hosted_as h.room.number rooms ≡ Some h) (who : Here) where
  known : Knows h.room.number h.room.affiliations rooms.hosted
  known = subst (λ (o : Option Hosted). IfSome o (λ x. x.room.affiliations ≡ h.room.affiliations)) (sym at) refl

  done_sums : (st : Stanza) (ws : List Wanted) → first_refusal h.room who ws ≡ None → AllKeepSums rooms (done h.room who st ws)
  done_sums st ws right =
      let gone : List Effect = gone_if_left (has_occupants h.room) (after_all ws h.room) in
      let said : List Effect = said_to who (result_of st []) ∷ [] in
      subst (AllKeepSums rooms) (sym (append_assoc (all_effects h.room ws) gone said))
      (items_sums h.room.number ws h.room.affiliations who h.room rooms (gone ++ said) (refl, refl) right known
      (λ rs. mild_sums (gone ++ said) rs (append_all Mild gone said
      (either_all Mild (has_occupants h.room && not (has_occupants (after_all ws h.room)) && not (after_all ws h.room).config.persistent) _ [] (tt, tt) tt)
      (tt, tt))))

  wanted_sums : (st : Stanza) (ws : List Wanted) → AllKeepSums rooms (set_wanted h.room who st ws)
  wanted_sums st ws =
      choose (AllKeepSums rooms) (list_any is_garbled ws) (refused who st BadRequest)
      (unless_refused who st (first_refusal h.room who ws) (done h.room who st ws))
      (λ (_ : _). mild_sums (refused who st BadRequest) rooms (refused_mild who st BadRequest))
      (λ (_ : _). unless_sums rooms who st (first_refusal h.room who ws) (done h.room who st ws) (λ right. done_sums st ws right))

  list_affiliation_mild : (st : Stanza) (a : Option Affiliation) → AllByRecursion Mild (list_affiliation h.room who st a)
  list_affiliation_mild st None = refused_mild who st BadRequest
  list_affiliation_mild st (Some a) = either_all Mild (governs (affiliation_in h.room who)) _ _ (tt, tt) (refused_mild who st Forbidden)

  list_role_mild : (st : Stanza) (role : Option Role) → AllByRecursion Mild (list_role h.room who st role)
  list_role_mild st None = refused_mild who st BadRequest
  list_role_mild st (Some role) =
      either_all Mild (is_moderating (occupant_of who.session h.room.occupants)) _ _ (tt, tt) (refused_mild who st Forbidden)

  list_as_mild : (st : Stanza) (a role : Option (List ℕ)) → AllByRecursion Mild (list_as h.room who st a role)
  list_as_mild st (Some a) None = list_affiliation_mild st (affiliation_named a)
  list_as_mild st None (Some role) = list_role_mild st (role_named role)
  list_as_mild st (Some a) (Some role) = refused_mild who st BadRequest
  list_as_mild st None None = refused_mild who st BadRequest

  list_mild : (st : Stanza) (e : Option Element) → AllByRecursion Mild (list_by h.room who st e)
  list_mild st None = refused_mild who st BadRequest
  list_mild st (Some e) = list_as_mild st (attr_of (codes "affiliation") e.attrs) (attr_of (codes "role") e.attrs)

  admin_as_sums : (st : Stanza) (form : IqForm) (query : Element) → AllKeepSums rooms (admin_as h.room who st form query)
  admin_as_sums st iq.Get query = mild_sums (list_by h.room who st (only_item query)) rooms (list_mild st (only_item query))
  admin_as_sums st iq.Set query =
      choose (AllKeepSums rooms) (is_wrong_count (length (items_of query.children))) (refused who st BadRequest)
      (set_wanted h.room who st (map wanted_by (items_of query.children)))
      (λ (_ : _). mild_sums (refused who st BadRequest) rooms (refused_mild who st BadRequest))
      (λ (_ : _). wanted_sums st (map wanted_by (items_of query.children)))
  admin_as_sums st iq.Result query = tt
  admin_as_sums st iq.Error query = tt

  admin_by_sums : (st : Stanza) (form : IqForm) (query : Option Element) → AllKeepSums rooms (admin_by h.room who st form query)
  admin_by_sums st form None = tt
  admin_by_sums st form (Some query) = admin_as_sums st form query

  pub admin_sums : (st : Stanza) → AllKeepSums rooms (admin h.room who st)
  admin_sums (Iq to id form e) = admin_by_sums (Iq to id form e) form (administration.query_in e)
  admin_sums (Message to form e) = tt
  admin_sums (Presence to form e) = tt
  admin_sums (Faulty kind to id answered c) = tt

  -- invitations
  copies_mild : (rest : List ℕ) (hs : List Here) → AllByRecursion Mild (copies rest hs)
  copies_mild rest [] = tt
  copies_mild rest (x ∷ hs) = (tt, copies_mild rest hs)

  member_sums : (address : Address) (more : List Effect) → invite_refusal h.room who address ≡ None → AllByRecursion Mild more
      → AllKeepSums rooms (made_member h.room address ++ more)
  member_sums address more right mild =
      by (h.room.config.members_only && not (governs (affiliation_in h.room who))) (becomes_member h.room address) right
    where
      by : (barred member : Bool)
          → (if barred then Some Forbidden else if member then too_large (with_affiliation address Member h.room.affiliations) else None) ≡ None
          → AllKeepSums rooms ((if member then Set (change.Affiliated h.room.number address Member) ∷ [] else []) ++ more)
      by true member is = absurd (let z : Some Forbidden ≡ None = is in cc)
      by false true is = (
        affiliated_sum h.room.number h.room.affiliations address Member rooms known (modest_of (with_affiliation address Member h.room.affiliations) is),
        mild_sums more (step (Set (change.Affiliated h.room.number address Member)) rooms) mild,
      )
      by false false is = mild_sums more rooms mild

  called_sums : (st : Stanza) (hs : List Here) (i : Option Invitation) → AllKeepSums rooms (called_by h.room who st hs i)
  called_sums st hs None = mild_sums (refused who st BadRequest) rooms (refused_mild who st BadRequest)
  called_sums st hs (Some i) =
      choose (AllKeepSums rooms) i.declined (copies (text (message_with h.room.address (decline_nodes who i.reason))) hs)
      (unless_refused who st (invite_refusal h.room who i.address) (invites h.room who hs i))
      (λ (_ : _). mild_sums (copies (text (message_with h.room.address (decline_nodes who i.reason))) hs) rooms
      (copies_mild (text (message_with h.room.address (decline_nodes who i.reason))) hs))
      (λ (_ : _). unless_sums rooms who st (invite_refusal h.room who i.address) (invites h.room who hs i)
      (λ right. member_sums i.address (copies (text (message_with h.room.address (invite_nodes h.room who i.reason))) hs) right
      (copies_mild (text (message_with h.room.address (invite_nodes h.room who i.reason))) hs)))

  called_in_sums : (st : Stanza) (hs : List Here) (x : Option Element) → AllKeepSums rooms (called_in h.room who st hs x)
  called_in_sums st hs None = tt
  called_in_sums st hs (Some x) =
      choose (AllKeepSums rooms) (has_call x) (called h.room who st hs x) []
      (λ (_ : _). choose (AllKeepSums rooms) (may_call h.room who x) (called_by h.room who st hs (invitation_of x)) (refused who st NotAcceptable)
      (λ (_ : _). called_sums st hs (invitation_of x))
      (λ (_ : _). mild_sums (refused who st NotAcceptable) rooms (refused_mild who st NotAcceptable)))
      (λ (_ : _). tt)

  pub invite_sums : (st : Stanza) (hs : List Here) → AllKeepSums rooms (invite h.room who st hs)
  invite_sums (Message to form e) hs = called_in_sums (Message to form e) hs (inviting.x_in e)
  invite_sums (Presence to form e) hs = tt
  invite_sums (Iq to id form e) hs = tt
  invite_sums (Faulty kind to id answered c) hs = tt
