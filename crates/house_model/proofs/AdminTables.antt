-- What comes of requests about a room, and of invitations to it, fits the rooms as they are.
use Rattle.std.proofs.Common.{ℕ, List, [], ◌∷◌, ◌++◌, map, length, not, ◌&&◌, codes, sym, refl, subst, Option, Some, None}
use Rattle.std.specs.List.{AllByRecursion, list_any}
use Rattle.std.specs.Option.{option_map}
use Rattle.stanza_tree.specs.Attributes.{attr_of}
use Rattle.stanza_tree.specs.Spelling.{text}
use Rattle.stanza_tree.specs.declared.node.Element.{Element}
use Rattle.stanza_model.specs.Forms.{form_of}
use Rattle.stanza_model.specs.Replies.{result_of, said_to}
use Rattle.stanza_model.specs.Rooms.{affiliation_named, role_named}
use Rattle.stanza_model.specs.declared.condition.Condition.TheVariants.{BadRequest, Forbidden, NotAcceptable}
use Rattle.stanza_model.specs.declared.effect.Change.TheVariants.{Affiliated, RoomGone}
use Rattle.stanza_model.specs.declared.effect.Effect.{Effect}
use Rattle.stanza_model.specs.declared.effect.Effect.TheVariants.{Broadcast, Set}
use Rattle.stanza_model.specs.declared.form.DataForm.{DataForm}
use Rattle.stanza_model.specs.declared.form.Field.{Field}
use Rattle.stanza_model.specs.declared.here.Here.{Here}
use Rattle.stanza_model.specs.declared.kinds.IqForm.{IqForm}
use Rattle.stanza_model.specs.declared.kinds.IqForm.TheVariants as iq
use Rattle.stanza_model.specs.declared.room.Affiliation.{Affiliation}
use Rattle.stanza_model.specs.declared.room.Affiliation.TheVariants.{Member}
use Rattle.stanza_model.specs.declared.room.Role.{Role}
use Rattle.stanza_model.specs.declared.room.Room.{Room}
use Rattle.stanza_model.specs.declared.room.RoomItem.TheVariants as item
use Rattle.stanza_model.specs.declared.stanza.Stanza.{Stanza}
use Rattle.stanza_model.specs.declared.stanza.Stanza.TheVariants.{Message, Presence, Iq, Faulty}
use Rattle.muc_roles.specs.Roles.{governs, is_owner}
use Rattle.muc_room.specs.Seats.{affiliation_in, occupant_of}
use Rattle.muc_admin.specs.Administration as administration
use Rattle.muc_admin.specs.Administration.{admin, admin_as, admin_by, is_wrong_count, list_affiliation, list_as, list_by, list_role, set_by, set_wanted}
use Rattle.muc_settings.specs.Drafts.{config_of, draft_of, is_wrong, lacks_password, lacks_type, put_all}
use Rattle.muc_owner.specs.Invitations.{has_call, invitation_of}
use Rattle.muc_owner.specs.Inviting as inviting
use Rattle.muc_owner.specs.Inviting.{becomes_member, called_by, called_in, copies, decline_nodes, invite, invite_nodes, invite_refusal, invites}
use Rattle.muc_owner.specs.Inviting.{may_call, message_with}
use Rattle.muc_admin.specs.Items.{is_garbled, items_of, only_item, wanted_by}
use Rattle.muc_owner.specs.Owning as owning
use Rattle.muc_owner.specs.Owning.{configured_so, configures, destroy_in, destroys, destroys_by, granted, is_cancel, nicks_of, owner, owner_as, owner_by}
use Rattle.muc_owner.specs.Owning.{reason_in, set_as, set_form, told_reason}
use Rattle.muc_admin.specs.Refusals.{is_moderating}
use Rattle.muc_admin.specs.Sets.{after_all, all_effects, done, first_refusal, gone_if_left, has_occupants}
use Rattle.muc_owner.specs.declared.invitation.Invitation.{Invitation}
use Rattle.muc_admin.specs.declared.item.Wanted.{Wanted}
use Rattle.muc_service.specs.Casting.{after}
use Rattle.muc_service.specs.Rooms.{Rooms, counted}
use Rattle.house_model.specs.RoomFits.{AreOf}
use Rattle.house_model.proofs.AdminFits.{AllFit, wanted_fit}
use Rattle.house_model.proofs.Removals.{Well}
use Rattle.house_model.proofs.Founds.{either_all}
use Rattle.house_model.proofs.RoomTables.{no, refused_calm, unless_of}
use Rattle.house_model.proofs.RoomsThere.{Holds, all_of, calm_of, gone_of, holds_after, of_then, there}
use Rattle.house_model.proofs.SeatLemmas.{seats_of}
use Rattle.house_model.proofs.StayLemmas.{choose}
use Rattle.house_model.proofs.StayLists.{IsCalm}

-- what is listed names no room

list_affiliation_calm : (room : Room) (who : Here) (request : Stanza) (a : Option Affiliation) → AllByRecursion IsCalm (list_affiliation room who request a)
list_affiliation_calm room who request None = refused_calm who request BadRequest
list_affiliation_calm room who request (Some a) =
    either_all IsCalm (governs (affiliation_in room who)) _ _ (tt, tt) (refused_calm who request Forbidden)

list_role_calm : (room : Room) (who : Here) (request : Stanza) (role : Option Role) → AllByRecursion IsCalm (list_role room who request role)
list_role_calm room who request None = refused_calm who request BadRequest
list_role_calm room who request (Some role) =
    either_all IsCalm (is_moderating (occupant_of who.session room.occupants)) _ _ (tt, tt) (refused_calm who request Forbidden)

list_as_calm : (room : Room) (who : Here) (request : Stanza) (a role : Option (List ℕ)) → AllByRecursion IsCalm (list_as room who request a role)
list_as_calm room who request (Some a) None = list_affiliation_calm room who request (affiliation_named a)
list_as_calm room who request None (Some role) = list_role_calm room who request (role_named role)
list_as_calm room who request (Some a) (Some role) = refused_calm who request BadRequest
list_as_calm room who request None None = refused_calm who request BadRequest

list_calm : (room : Room) (who : Here) (request : Stanza) (e : Option Element) → AllByRecursion IsCalm (list_by room who request e)
list_calm room who request None = refused_calm who request BadRequest
list_calm room who request (Some e) = list_as_calm room who request (attr_of (codes "affiliation") e.attrs) (attr_of (codes "role") e.attrs)

copies_calm : (rest : List ℕ) (hs : List Here) → AllByRecursion IsCalm (copies rest hs)
copies_calm rest [] = tt
copies_calm rest (h ∷ hs) = (tt, copies_calm rest hs)

module _ (rooms : Rooms) (room : Room) (well : Well room) (holds : Holds rooms room.number (seats_of room.occupants)) (who : Here) where
  -- a set of items
  done_of : (request : Stanza) (ws : List Wanted) → AreOf rooms (done room who request ws)
  done_of request ws =
      let fit : AllFit room.number rooms room ws = wanted_fit ws room.number room refl well rooms holds in
      let later : Rooms = after rooms (all_effects room ws) in
      let final : Room = after_all ws room in
      let last : List Effect = said_to who (result_of request []) ∷ [] in
      let gone : List Effect = gone_if_left (has_occupants room) final in
      of_then (all_effects room ws ++ gone) last rooms
      (of_then (all_effects room ws) gone rooms fit.fits
      (choose (AreOf later) (has_occupants room && not (has_occupants final) && not final.config.persistent) (Set (RoomGone final.number) ∷ []) []
      (λ (_ : _). gone_of [] later final.number (seats_of final.occupants)
      (subst (λ (k : ℕ). Holds later k (seats_of final.occupants)) (sym fit.number) fit.holds) tt)
      (λ (_ : _). tt)))
      (calm_of last (after rooms (all_effects room ws ++ gone)) (tt, tt))

  wanted_of : (request : Stanza) (ws : List Wanted) → AreOf rooms (set_wanted room who request ws)
  wanted_of request ws =
      choose (AreOf rooms) (list_any is_garbled ws) _ _ (λ (_ : _). no rooms room holds who request BadRequest)
      (λ (_ : _). unless_of rooms who request (first_refusal room who ws) (done room who request ws) (done_of request ws))

  admin_as_of : (request : Stanza) (form : IqForm) (query : Element) → AreOf rooms (admin_as room who request form query)
  admin_as_of request iq.Get query = calm_of (list_by room who request (only_item query)) rooms (list_calm room who request (only_item query))
  admin_as_of request iq.Set query =
      choose (AreOf rooms) (is_wrong_count (length (items_of query.children))) _ _ (λ (_ : _). no rooms room holds who request BadRequest)
      (λ (_ : _). wanted_of request (map wanted_by (items_of query.children)))
  admin_as_of request iq.Result query = tt
  admin_as_of request iq.Error query = tt

  admin_by_of : (request : Stanza) (form : IqForm) (query : Option Element) → AreOf rooms (admin_by room who request form query)
  admin_by_of request form None = tt
  admin_by_of request form (Some query) = admin_as_of request form query

  pub admin_of : (st : Stanza) → AreOf rooms (admin room who st)
  admin_of (Iq to id form e) = admin_by_of (Iq to id form e) form (administration.query_in e)
  admin_of (Message to form e) = tt
  admin_of (Presence to form e) = tt
  admin_of (Faulty kind to id answered c) = tt

  -- requests of owners
  configures_of : (request : Stanza) (fields : List Field) → AreOf rooms (configures room who request fields)
  configures_of request fields =
      choose (AreOf rooms) (list_any is_wrong fields) _ _ (λ (_ : _). no rooms room holds who request BadRequest)
      (λ (_ : _). choose (AreOf rooms) (lacks_type fields) _ _ (λ (_ : _). no rooms room holds who request BadRequest)
      (λ (_ : _). choose (AreOf rooms) (lacks_password (put_all fields (draft_of room.config))) _ _
      (λ (_ : _). no rooms room holds who request NotAcceptable)
      (λ (_ : _). all_of (configured_so room who request (config_of (put_all fields (draft_of room.config)))) rooms room.number
      (seats_of room.occupants) holds (refl, (refl, (tt, tt))))))

  destroys_of : (request : Stanza) (reason : Option Element) → AreOf rooms (destroys room who request reason)
  destroys_of request reason =
      let first : List Effect = Broadcast room.number (item.Destroyed reason (nicks_of room.occupants)) ∷ [] in (
        there rooms room.number (seats_of room.occupants) holds,
        gone_of (granted who request ∷ []) (counted room.number rooms) room.number (seats_of room.occupants)
            (holds_after first rooms room.number (seats_of room.occupants) holds (refl, tt)) (tt, tt),
      )

  destroys_by_of : (request : Stanza) (destroy : Option Element) → AreOf rooms (destroys_by room who request destroy)
  destroys_by_of request (Some destroy) = destroys_of request (option_map told_reason (reason_in destroy))
  destroys_by_of request None = no rooms room holds who request BadRequest

  form_of_of : (request : Stanza) (x : Element) (form : Option DataForm) (destroy : Option Element) → AreOf rooms (set_form room who request x form destroy)
  form_of_of request x (Some form) destroy = configures_of request form.fields
  form_of_of request x None destroy =
      choose (AreOf rooms) (is_cancel x) _ _
      (λ (_ : _). choose (AreOf rooms) room.locked _ _ (λ (_ : _). destroys_of request None)
      (λ (_ : _). calm_of (granted who request ∷ []) rooms (tt, tt)))
      (λ (_ : _). destroys_by_of request destroy)

  set_as_of : (request : Stanza) (x destroy : Option Element) → AreOf rooms (set_as room who request x destroy)
  set_as_of request (Some x) destroy = form_of_of request x (form_of x) destroy
  set_as_of request None destroy = destroys_by_of request destroy

  owner_as_of : (request : Stanza) (form : IqForm) (query : Element) → AreOf rooms (owner_as room who request form query)
  owner_as_of request iq.Get query = (tt, tt)
  owner_as_of request iq.Set query = set_as_of request (owning.x_in query) (destroy_in query)
  owner_as_of request iq.Result query = tt
  owner_as_of request iq.Error query = tt

  owner_by_of : (request : Stanza) (form : IqForm) (query : Option Element) → AreOf rooms (owner_by room who request form query)
  owner_by_of request form None = tt
  owner_by_of request form (Some query) =
      choose (AreOf rooms) (is_owner (affiliation_in room who)) _ _ (λ (_ : _). owner_as_of request form query)
      (λ (_ : _). no rooms room holds who request Forbidden)

  pub owner_of : (st : Stanza) → AreOf rooms (owner room who st)
  owner_of (Iq to id form e) = owner_by_of (Iq to id form e) form (owning.query_in e)
  owner_of (Message to form e) = tt
  owner_of (Presence to form e) = tt
  owner_of (Faulty kind to id answered c) = tt

  -- invitations
  invites_of : (hs : List Here) (i : Invitation) → AreOf rooms (invites room who hs i)
  invites_of hs i =
      let rest : List ℕ = text (message_with room.address (invite_nodes room who i.reason)) in
      let made : List Effect = Set (Affiliated room.number i.address Member) ∷ [] in
      choose (λ (es : List Effect). AreOf rooms (es ++ copies rest hs)) (becomes_member room i.address) made []
      (λ (_ : _). of_then made (copies rest hs) rooms (all_of made rooms room.number (seats_of room.occupants) holds (refl, tt))
      (calm_of (copies rest hs) (after rooms made) (copies_calm rest hs)))
      (λ (_ : _). calm_of (copies rest hs) rooms (copies_calm rest hs))

  called_of : (st : Stanza) (hs : List Here) (i : Option Invitation) → AreOf rooms (called_by room who st hs i)
  called_of st hs None = no rooms room holds who st BadRequest
  called_of st hs (Some i) =
      choose (AreOf rooms) i.declined _ _
      (λ (_ : _). calm_of (copies (text (message_with room.address (decline_nodes who i.reason))) hs) rooms (copies_calm _ hs))
      (λ (_ : _). unless_of rooms who st (invite_refusal room who i.address) (invites room who hs i) (invites_of hs i))

  called_in_of : (st : Stanza) (hs : List Here) (x : Option Element) → AreOf rooms (called_in room who st hs x)
  called_in_of st hs None = tt
  called_in_of st hs (Some x) =
      choose (AreOf rooms) (has_call x) _ []
      (λ (_ : _). choose (AreOf rooms) (may_call room who x) _ _ (λ (_ : _). called_of st hs (invitation_of x))
      (λ (_ : _). no rooms room holds who st NotAcceptable))
      (λ (_ : _). tt)

  pub invite_of : (st : Stanza) (hs : List Here) → AreOf rooms (invite room who st hs)
  invite_of (Message to form e) hs = called_in_of (Message to form e) hs (inviting.x_in e)
  invite_of (Presence to form e) hs = tt
  invite_of (Iq to id form e) hs = tt
  invite_of (Faulty kind to id answered c) hs = tt
