-- Each effect of a room's tables on requests and invitations is something that is said to who asks, an item that the room broadcasts, a session
-- that leaves, a copy of an invitation, or what is set of the room.
use Rattle.std.proofs.Common.{◌≡◌, ℕ, List, [], ◌∷◌, ◌++◌, map, length, not, ◌&&◌, codes, refl, arith, ◌≤◌, if◌then◌else◌, Bool, true}
use Rattle.std.proofs.Common.{false, Option, Some, None, IfSome}
use Rattle.std.specs.Fmt.{decimal}
use Rattle.std.specs.Option.{option_map}
use Rattle.std.specs.List.{AllByRecursion, list_any}
use Rattle.jid_core.specs.Addresses.{Address}
use Rattle.stanza_tree.specs.Attributes.{attr_of}
use Rattle.stanza_tree.specs.Children.{child_of}
use Rattle.stanza_tree.specs.Spelling.{text}
use Rattle.stanza_tree.specs.declared.node.Element.{Element}
use Rattle.stanza_model.specs.Forms.{form_of}
use Rattle.stanza_model.specs.Replies.{error_of, one_child, refused, result_of, said_to}
use Rattle.stanza_model.specs.Rooms.{affiliation_named, role_named}
use Rattle.stanza_model.specs.Stanzas.{element_in}
use Rattle.stanza_model.specs.declared.condition.Condition.{Condition}
use Rattle.stanza_model.specs.declared.condition.Condition.TheVariants.{BadRequest, Forbidden, NotAcceptable}
use Rattle.stanza_model.specs.declared.effect.Change.TheVariants.{Affiliated, Configured, RoleSet, RoomGone, Unlocked}
use Rattle.stanza_model.specs.declared.effect.Effect.{Effect}
use Rattle.stanza_model.specs.declared.effect.Effect.TheVariants.{Broadcast, Set}
use Rattle.stanza_model.specs.declared.form.DataForm.{DataForm}
use Rattle.stanza_model.specs.declared.form.Field.{Field}
use Rattle.stanza_model.specs.declared.here.Here.{Here}
use Rattle.stanza_model.specs.declared.kinds.IqForm.{IqForm}
use Rattle.stanza_model.specs.declared.kinds.IqForm.TheVariants as iq
use Rattle.stanza_model.specs.declared.room.Affiliation.{Affiliation}
use Rattle.stanza_model.specs.declared.room.Affiliation.TheVariants.{Member}
use Rattle.stanza_model.specs.declared.room.Occupant.{Occupant}
use Rattle.stanza_model.specs.declared.room.Role.{Role}
use Rattle.stanza_model.specs.declared.room.Role.TheVariants.{Moderator, Participant, Visitor, Nobody}
use Rattle.stanza_model.specs.declared.room.Room.{Room}
use Rattle.stanza_model.specs.declared.room.RoomItem.TheVariants as item
use Rattle.stanza_model.specs.declared.room.Seat.{Seat}
use Rattle.stanza_model.specs.declared.stanza.Stanza.{Stanza}
use Rattle.stanza_model.specs.declared.stanza.Stanza.TheVariants.{Message, Presence, Iq, Faulty}
use Rattle.muc_roles.specs.Roles.{governs, is_outcast, is_owner}
use Rattle.muc_room.specs.Seats.{affiliation_in, affiliation_of, has_seat, holder_of, occupant_of}
use Rattle.muc_room.specs.States.{affiliated_if, is_of, role_if, set_affiliation, set_role, without_occupant}
use Rattle.muc_admin.specs.Administration as administration
use Rattle.muc_admin.specs.Administration.{admin, admin_as, admin_by, is_wrong_count, list_affiliation, list_as, list_by, list_role}
use Rattle.muc_admin.specs.Administration.{occupants_in, set_wanted}
use Rattle.muc_admin.specs.Afterwards.{after, after_role, changed_by, speakers, with_role, with_roles, with_user}
use Rattle.muc_settings.specs.Drafts.{config_of, draft_of, is_wrong, lacks_password, lacks_type, put_all}
use Rattle.muc_owner.specs.Invitations.{has_call, invitation_of}
use Rattle.muc_owner.specs.Inviting as inviting
use Rattle.muc_owner.specs.Inviting.{becomes_member, called_by, called_in, copies, decline_nodes, invite, invite_nodes, invite_refusal}
use Rattle.muc_owner.specs.Inviting.{invites, made_member, may_call, message_with}
use Rattle.muc_admin.specs.Items.{is_garbled, items_of, only_item, wanted_by}
use Rattle.muc_admin.specs.Listings.{affiliation_items, is_same_affiliation, is_same_role, listing}
use Rattle.muc_owner.specs.Owning as owning
use Rattle.muc_owner.specs.Owning.{configures, destroy_in, destroys_by, form_query, is_cancel, nicks_of, owner, owner_as, owner_by}
use Rattle.muc_owner.specs.Owning.{owner_space, set_as, set_form}
use Rattle.muc_owner.specs.Owning.{told_reason}
use Rattle.muc_admin.specs.Refusals.{is_moderating}
use Rattle.muc_admin.specs.Sets.{after_all, all_effects, done, first_refusal, gone_if_left, has_occupants}
use Rattle.muc_admin.specs.Telling.{affiliation_told, all_told, effects_of, gone_item, kicked, leaving, new_role, removal_code, role_told}
use Rattle.muc_admin.specs.Telling.{shown_as, told, told_if}
use Rattle.muc_owner.specs.declared.invitation.Invitation.{Invitation}
use Rattle.muc_admin.specs.declared.item.Wanted.{Wanted}
use Rattle.muc_admin.specs.declared.item.Wanted.TheVariants as wanted
use Rattle.house_model.proofs.Founds.{append_all, either_all, filter_all}
use Rattle.house_model.proofs.RosterSizes.{number-le}
use Rattle.house_model.proofs.RoomCases.{found_all, map_all, refused_rows, unless_rows}
use Rattle.house_model.proofs.StayLemmas.{choose}

-- the same room, with who is in it perhaps otherwise
abbrev pub IsAs : Room → Room → Type 0
IsAs room r = (r.number ≡ room.number) × (r.address ≡ room.address)

-- the status codes of those who are removed are short
kicked_few : length (decimal kicked) ≤ 20
kicked_few = number-le kicked (omega arith)

removal_few : (outcast : Bool) → length (decimal (if outcast then 301 else 321)) ≤ 20
removal_few true = number-le 301 (omega arith)
removal_few false = number-le 321 (omega arith)

-- what is set of it, and what those who are in it are told
pub record Sets (room : Room) (P : Effect → Type 0) (Q : Occupant → Type 0) (R : Seat → Type 0) : Type 0 where
  pub seats : (o : Occupant) → Q o → AllByRecursion R o.seats
  pub role : (o : Occupant) (role : Role) → Q o → Q (record o { role = role })
  pub affiliation : (o : Occupant) (a : Affiliation) → Q o → Q (record o { affiliation = a })
  pub removed : (r : Room) (o : Occupant) (a : Affiliation) (code : ℕ) → IsAs room r → Q o → length (decimal code) ≤ 20
      → P (Broadcast r.number (gone_item r o a code))
  pub left : (r : Room) (x : Seat) → IsAs room r → R x → P (leaving r.number x)
  pub changed : (r : Room) (o : Occupant) (a : Affiliation) (role : Role) → IsAs room r → Q o → P (Broadcast r.number (shown_as r o a role))
  pub given : (r : Room) (o : Occupant) (role : Role) → IsAs room r → Q o → P (Set (RoleSet r.number o.spoke role))
  pub affiliated : (r : Room) (address : Address) (a : Affiliation) → IsAs room r → P (Set (Affiliated r.number address a))
  pub gone : (r : Room) → IsAs room r → P (Set (RoomGone r.number))

module _ (room : Room) (P : Effect → Type 0) (Q : Occupant → Type 0) (R : Seat → Type 0) (each : Sets room P Q R) where
  abbrev Holds : Room → Type 0
  Holds r = IsAs room r × AllByRecursion Q r.occupants

  told_rows : (r : Room) (o : Occupant) (a : Affiliation) (role : Role) (code : ℕ) → IsAs room r → Q o → length (decimal code) ≤ 20
      → AllByRecursion P (told r o a role code)
  told_rows r o a Nobody code same is few =
      (each.removed r o a code same is few, map_all P R (leaving r.number) (λ x fits. each.left r x same fits) o.seats (each.seats o is))
  told_rows r o a Moderator code same is few = (each.given r o Moderator same is, (each.changed r o a Moderator same is, tt))
  told_rows r o a Participant code same is few = (each.given r o Participant same is, (each.changed r o a Participant same is, tt))
  told_rows r o a Visitor code same is few = (each.given r o Visitor same is, (each.changed r o a Visitor same is, tt))

  role_rows : (r : Room) (role : Role) (o : Option Occupant) → IsAs room r → IfSome o Q → AllByRecursion P (role_told r role o)
  role_rows r role None same is = tt
  role_rows r role (Some o) same is = either_all P (is_same_role o.role role) [] _ tt (told_rows r o o.affiliation role kicked same is kicked_few)

  all_told_rows : (r : Room) (address : Address) (a : Affiliation) (os : List Occupant) → IsAs room r → AllByRecursion Q os
      → AllByRecursion P (all_told r address a os)
  all_told_rows r address a [] same all = tt
  all_told_rows r address a (o ∷ os) same all =
      append_all P (told_if r address a o) (all_told r address a os)
      (either_all P (is_of address o) _ [] (told_rows r o a (new_role r.config a) (removal_code a) same all.0 (removal_few (is_outcast a))) tt)
      (all_told_rows r address a os same all.1)

  affiliation_rows : (r : Room) (address : Address) (a : Affiliation) → Holds r → AllByRecursion P (affiliation_told r address a)
  affiliation_rows r address a holds = (each.affiliated r address a holds.0, all_told_rows r address a r.occupants holds.0 holds.1)

  item_rows : (r : Room) (w : Wanted) → Holds r → AllByRecursion P (effects_of r w)
  item_rows r (wanted.Role nick role) holds = role_rows r role (holder_of nick r.occupants) holds.0 (found_all Q _ r.occupants holds.1)
  item_rows r (wanted.Affiliation address a) holds =
      either_all P (is_same_affiliation (affiliation_of address r.affiliations) a) [] _ tt (affiliation_rows r address a holds)
  item_rows r wanted.Garbled holds = tt

  -- the room after an item

  role_holds : (s : ℕ) (role : Role) (r : Room) → Holds r → Holds (set_role s role r)
  role_holds s role r holds = (
    holds.0,
    map_all Q Q (role_if s role)
        (λ o is. choose Q (has_seat s o) (record o { role = role }) o (λ (_ : _). each.role o role is) (λ (_ : _). is))
        r.occupants holds.1,
  )

  without_holds : (s : ℕ) (r : Room) → Holds r → Holds (without_occupant s r)
  without_holds s r holds = (holds.0, filter_all Q (λ o. not (has_seat s o)) r.occupants holds.1)

  with_holds : (s : ℕ) (role : Role) (r : Room) → Holds r → Holds (with_role s role r)
  with_holds s Nobody r holds = without_holds s r holds
  with_holds s Moderator r holds = role_holds s Moderator r holds
  with_holds s Participant r holds = role_holds s Participant r holds
  with_holds s Visitor r holds = role_holds s Visitor r holds

  all_with_hold : (ss : List ℕ) (role : Role) (r : Room) → Holds r → Holds (with_roles ss role r)
  all_with_hold [] role r holds = holds
  all_with_hold (s ∷ ss) role r holds = all_with_hold ss role (with_role s role r) (with_holds s role r holds)

  affiliation_holds : (address : Address) (a : Affiliation) (r : Room) → Holds r → Holds (set_affiliation address a r)
  affiliation_holds address a r holds = (
    holds.0,
    map_all Q Q (affiliated_if address a)
        (λ o is. choose Q (is_of address o) (record o { affiliation = a }) o (λ (_ : _). each.affiliation o a is) (λ (_ : _). is))
        r.occupants holds.1,
  )

  role_after : (role : Role) (s : Option ℕ) (r : Room) → Holds r → Holds (after_role role s r)
  role_after role None r holds = holds
  role_after role (Some s) r holds = with_holds s role r holds

  after_holds : (w : Wanted) (r : Room) → Holds r → Holds (after w r)
  after_holds (wanted.Role nick role) r holds = role_after role (changed_by role (holder_of nick r.occupants)) r holds
  after_holds (wanted.Affiliation address a) r holds =
      choose Holds (is_same_affiliation (affiliation_of address r.affiliations) a) r (with_user address a r) (λ (_ : _). holds)
      (λ (_ : _). all_with_hold (speakers address r.occupants) (new_role r.config a) (set_affiliation address a r) (affiliation_holds address a r holds))
  after_holds wanted.Garbled r holds = holds

  items_rows : (ws : List Wanted) (r : Room) → Holds r → AllByRecursion P (all_effects r ws)
  items_rows [] r holds = tt
  items_rows (w ∷ ws) r holds =
      append_all P (effects_of r w) (all_effects (after w r) ws) (item_rows r w holds) (items_rows ws (after w r) (after_holds w r holds))

  all_after : (ws : List Wanted) (r : Room) → Holds r → Holds (after_all ws r)
  all_after [] r holds = holds
  all_after (w ∷ ws) r holds = all_after ws (after w r) (after_holds w r holds)

  left_rows : (had : Bool) (r : Room) → IsAs room r → AllByRecursion P (gone_if_left had r)
  left_rows had r same = either_all P (had && not (has_occupants r) && not r.config.persistent) _ [] (each.gone r same, tt) tt

-- Requests about roles and affiliations.

pub record Manages (room : Room) (who : Here) (st : Stanza) (P : Effect → Type 0) (Q : Occupant → Type 0) (R : Seat → Type 0) : Type 0 where
  pub refusal : (c : Condition) → P (said_to who (error_of st c))
  pub result : P (said_to who (result_of st []))
  pub sets : Sets room P Q R
  pub affiliations : (a : Affiliation) → P (said_to who (result_of st (one_child (listing (affiliation_items a room.affiliations)))))
  pub roles : (role : Role) → P (said_to who (result_of st (one_child (listing (occupants_in room role)))))

module _ (room : Room) (who : Here) (st : Stanza) (P : Effect → Type 0) (Q : Occupant → Type 0) (R : Seat → Type 0)
    (each : Manages room who st P Q R) (all : AllByRecursion Q room.occupants) where
  no : (c : Condition) → AllByRecursion P (refused who st c)
  no c = refused_rows P who st each.refusal c

  holds : Holds room P Q R each.sets room
  holds = ((refl, refl), all)

  done_rows : (ws : List Wanted) → AllByRecursion P (done room who st ws)
  done_rows ws =
      append_all P (all_effects room ws ++ gone_if_left (has_occupants room) (after_all ws room)) _
      (append_all P (all_effects room ws) _ (items_rows room P Q R each.sets ws room holds)
      (left_rows room P Q R each.sets (has_occupants room) (after_all ws room) (all_after room P Q R each.sets ws room holds).0)) (each.result, tt)

  list_affiliation_rows : (a : Option Affiliation) → AllByRecursion P (list_affiliation room who st a)
  list_affiliation_rows None = no BadRequest
  list_affiliation_rows (Some a) = either_all P (governs (affiliation_in room who)) _ _ (each.affiliations a, tt) (no Forbidden)

  list_role_rows : (role : Option Role) → AllByRecursion P (list_role room who st role)
  list_role_rows None = no BadRequest
  list_role_rows (Some role) =
      either_all P (is_moderating (occupant_of who.session room.occupants)) _ _ (each.roles role, tt) (no Forbidden)

  list_as_rows : (a role : Option (List ℕ)) → AllByRecursion P (list_as room who st a role)
  list_as_rows (Some a) None = list_affiliation_rows (affiliation_named a)
  list_as_rows None (Some role) = list_role_rows (role_named role)
  list_as_rows (Some a) (Some role) = no BadRequest
  list_as_rows None None = no BadRequest

  list_rows : (e : Option Element) → AllByRecursion P (list_by room who st e)
  list_rows None = no BadRequest
  list_rows (Some e) = list_as_rows (attr_of (codes "affiliation") e.attrs) (attr_of (codes "role") e.attrs)

  wanted_rows : (ws : List Wanted) → AllByRecursion P (set_wanted room who st ws)
  wanted_rows ws =
      either_all P (list_any is_garbled ws) _ _ (no BadRequest)
      (unless_rows P who st each.refusal (first_refusal room who ws) (done room who st ws) (done_rows ws))

  admin_as_rows : (form : IqForm) (query : Element) → AllByRecursion P (admin_as room who st form query)
  admin_as_rows iq.Get query = list_rows (only_item query)
  admin_as_rows iq.Set query =
      either_all P (is_wrong_count (length (items_of query.children))) _ _ (no BadRequest) (wanted_rows (map wanted_by (items_of query.children)))
  admin_as_rows iq.Result query = tt
  admin_as_rows iq.Error query = tt

  admin_by_rows : (form : IqForm) (query : Option Element) → AllByRecursion P (admin_by room who st form query)
  admin_by_rows form None = tt
  admin_by_rows form (Some query) = admin_as_rows form query

pub admin_rows : (room : Room) (who : Here) (st : Stanza) (P : Effect → Type 0) (Q : Occupant → Type 0) (R : Seat → Type 0) → Manages room who st P Q R
    → AllByRecursion Q room.occupants → AllByRecursion P (admin room who st)
admin_rows room who (Iq to id form e) P Q R each all = admin_by_rows room who (Iq to id form e) P Q R each all form (administration.query_in e)
admin_rows room who (Message to form e) P Q R each all = tt
admin_rows room who (Presence to form e) P Q R each all = tt
admin_rows room who (Faulty kind to id answered c) P Q R each all = tt

-- Requests of owners.

-- why a room is destroyed, same its owner says it
pub record IsReason (st : Stanza) (reason : Element) : Type 0 where
  pub top : Element
  pub query : Element
  pub destroy : Element
  pub at : element_in st ≡ Some top
  pub asked : owning.query_in top ≡ Some query
  pub wanted : destroy_in query ≡ Some destroy
  pub said : child_of owner_space (codes "reason") destroy.children ≡ Some reason

pub record Owns (room : Room) (who : Here) (st : Stanza) (P : Effect → Type 0) : Type 0 where
  pub refusal : (c : Condition) → P (said_to who (error_of st c))
  pub result : P (said_to who (result_of st []))
  pub form : P (said_to who (result_of st (one_child (form_query room.config))))
  pub configured : (fields : List Field) → list_any is_wrong fields ≡ false
      → P (Set (Configured room.number (config_of (put_all fields (draft_of room.config)))))
  pub unlocked : P (Set (Unlocked room.number))
  pub destroyed : (reason : Option Element) → IfSome reason (IsReason st)
      → P (Broadcast room.number (item.Destroyed (option_map told_reason reason) (nicks_of room.occupants)))
  pub gone : P (Set (RoomGone room.number))

module _ (room : Room) (who : Here) (st : Stanza) (P : Effect → Type 0) (each : Owns room who st P) where
  owner_no : (c : Condition) → AllByRecursion P (refused who st c)
  owner_no c = refused_rows P who st each.refusal c

  configures_rows : (fields : List Field) → AllByRecursion P (configures room who st fields)
  configures_rows fields =
      choose (AllByRecursion P) (list_any is_wrong fields) _ _ (λ (_ : _). owner_no BadRequest)
      (λ (right : _). either_all P (lacks_type fields) _ _ (owner_no BadRequest)
      (either_all P (lacks_password (put_all fields (draft_of room.config))) _ _ (owner_no NotAcceptable)
      (each.configured fields right, (each.unlocked, (each.result, tt)))))

  destroy_rows : (top query : Element) → element_in st ≡ Some top → owning.query_in top ≡ Some query → (destroy : Option Element)
      → destroy_in query ≡ destroy → AllByRecursion P (destroys_by room who st destroy)
  destroy_rows top query at asked (Some destroy) wants = (
    each.destroyed (child_of owner_space (codes "reason") destroy.children) (by (child_of owner_space (codes "reason") destroy.children) refl),
    (each.gone, (each.result, tt)),
  )
    where
      by : (reason : Option Element) → child_of owner_space (codes "reason") destroy.children ≡ reason → IfSome reason (IsReason st)
      by None said = tt
      by (Some reason) said = record { top = top; query = query; destroy = destroy; at = at; asked = asked; wanted = wants; said = said }
  destroy_rows top query at asked None wants = owner_no BadRequest

  form_rows : (x : Element) (form : Option DataForm) (destroy : Option Element) → AllByRecursion P (destroys_by room who st destroy)
      → AllByRecursion P (set_form room who st x form destroy)
  form_rows x (Some form) destroy else_so = configures_rows form.fields
  form_rows x None destroy else_so =
      either_all P (is_cancel x) _ _ (either_all P room.locked _ _ (each.destroyed None tt, (each.gone, (each.result, tt))) (each.result, tt)) else_so

  set_rows : (top query : Element) → element_in st ≡ Some top → owning.query_in top ≡ Some query → (x destroy : Option Element) → destroy_in query ≡ destroy
      → AllByRecursion P (set_as room who st x destroy)
  set_rows top query at asked (Some x) destroy wants = form_rows x (form_of x) destroy (destroy_rows top query at asked destroy wants)
  set_rows top query at asked None destroy wants = destroy_rows top query at asked destroy wants

  owner_as_rows : (top query : Element) → element_in st ≡ Some top → owning.query_in top ≡ Some query → (form : IqForm)
      → AllByRecursion P (owner_as room who st form query)
  owner_as_rows top query at asked iq.Get = (each.form, tt)
  owner_as_rows top query at asked iq.Set = set_rows top query at asked (owning.x_in query) (destroy_in query) refl
  owner_as_rows top query at asked iq.Result = tt
  owner_as_rows top query at asked iq.Error = tt

  owner_by_rows : (top : Element) → element_in st ≡ Some top → (form : IqForm) (query : Option Element) → owning.query_in top ≡ query
      → AllByRecursion P (owner_by room who st form query)
  owner_by_rows top at form None asked = tt
  owner_by_rows top at form (Some query) asked =
      either_all P (is_owner (affiliation_in room who)) _ _ (owner_as_rows top query at asked form) (owner_no Forbidden)

pub owner_rows : (room : Room) (who : Here) (st : Stanza) (P : Effect → Type 0) → Owns room who st P → AllByRecursion P (owner room who st)
owner_rows room who (Iq to id form e) P each = owner_by_rows room who (Iq to id form e) P each e refl form (owning.query_in e) refl
owner_rows room who (Message to form e) P each = tt
owner_rows room who (Presence to form e) P each = tt
owner_rows room who (Faulty kind to id answered c) P each = tt

-- Invitations.

-- what an invitation, or a message by which one is declined, says
pub record IsCall (st : Stanza) (i : Invitation) : Type 0 where
  pub top : Element
  pub x : Element
  pub at : element_in st ≡ Some top
  pub has : inviting.x_in top ≡ Some x
  pub said : invitation_of x ≡ Some i

pub record Calls (room : Room) (who : Here) (st : Stanza) (hs : List Here) (P : Effect → Type 0) (Q : Occupant → Type 0) (R : Seat → Type 0) : Type 0 where
  pub refusal : (c : Condition) → P (said_to who (error_of st c))
  pub sets : Sets room P Q R
  pub invited : (i : Invitation) → IsCall st i → AllByRecursion P (copies (text (message_with room.address (invite_nodes room who i.reason))) hs)
  pub declined : (i : Invitation) → IsCall st i → AllByRecursion P (copies (text (message_with room.address (decline_nodes who i.reason))) hs)

module _ (room : Room) (who : Here) (st : Stanza) (hs : List Here) (P : Effect → Type 0) (Q : Occupant → Type 0) (R : Seat → Type 0)
    (each : Calls room who st hs P Q R) (all : AllByRecursion Q room.occupants) where
  calls_no : (c : Condition) → AllByRecursion P (refused who st c)
  calls_no c = refused_rows P who st each.refusal c

  called_rows : (i : Option Invitation) → IfSome i (IsCall st) → AllByRecursion P (called_by room who st hs i)
  called_rows None is = calls_no BadRequest
  called_rows (Some i) is =
      either_all P i.declined _ _ (each.declined i is)
      (unless_rows P who st each.refusal (invite_refusal room who i.address) (invites room who hs i)
      (append_all P (made_member room i.address) _
      (either_all P (becomes_member room i.address) _ [] (each.sets.affiliated room i.address Member (refl, refl), tt) tt) (each.invited i is)))

  called_in_rows : (top : Element) → element_in st ≡ Some top → (x : Option Element) → inviting.x_in top ≡ x → AllByRecursion P (called_in room who st hs x)
  called_in_rows top at None has = tt
  called_in_rows top at (Some x) has =
      either_all P (has_call x) _ []
      (either_all P (may_call room who x) _ _ (called_rows (invitation_of x) (by (invitation_of x) refl)) (calls_no NotAcceptable)) tt
    where
      by : (i : Option Invitation) → invitation_of x ≡ i → IfSome i (IsCall st)
      by None said = tt
      by (Some i) said = record { top = top; x = x; at = at; has = has; said = said }

pub invite_rows : (room : Room) (who : Here) (st : Stanza) (hs : List Here) (P : Effect → Type 0) (Q : Occupant → Type 0) (R : Seat → Type 0)
    → Calls room who st hs P Q R → AllByRecursion Q room.occupants → AllByRecursion P (invite room who st hs)
invite_rows room who (Message to form e) hs P Q R each all =
    called_in_rows room who (Message to form e) hs P Q R each all e refl (inviting.x_in e) refl
invite_rows room who (Presence to form e) hs P Q R each all = tt
invite_rows room who (Iq to id form e) hs P Q R each all = tt
invite_rows room who (Faulty kind to id answered c) hs P Q R each all = tt
