-- The effects of a room's requests and invitations suit any rooms.
use Rattle.std.proofs.Common.{ℕ, List, [], ◌∷◌, ◌++◌, map, length, not, ◌&&◌, codes, Bool, Option, Some, None}
use Rattle.std.specs.List.{AllByRecursion, list_any}
use Rattle.jid_core.specs.Addresses.{Address}
use Rattle.stanza_tree.specs.Attributes.{attr_of}
use Rattle.stanza_tree.specs.declared.node.Element.{Element}
use Rattle.stanza_model.specs.Forms.{form_of}
use Rattle.stanza_model.specs.Rooms.{affiliation_named, role_named}
use Rattle.stanza_model.specs.declared.condition.Condition.{Condition}
use Rattle.stanza_model.specs.declared.condition.Condition.TheVariants.{BadRequest, Forbidden, NotAcceptable}
use Rattle.stanza_model.specs.declared.effect.Effect as stanza
use Rattle.stanza_model.specs.declared.form.DataForm.{DataForm}
use Rattle.stanza_model.specs.declared.form.Field.{Field}
use Rattle.stanza_model.specs.declared.here.Here.{Here}
use Rattle.stanza_model.specs.declared.kinds.IqForm.{IqForm}
use Rattle.stanza_model.specs.declared.kinds.IqForm.TheVariants as iq
use Rattle.stanza_model.specs.declared.room.Affiliation.{Affiliation}
use Rattle.stanza_model.specs.declared.room.Occupant.{Occupant}
use Rattle.stanza_model.specs.declared.room.Role.{Role}
use Rattle.stanza_model.specs.declared.room.Role.TheVariants.{Moderator, Participant, Visitor, Nobody}
use Rattle.stanza_model.specs.declared.room.Room.{Room}
use Rattle.stanza_model.specs.declared.room.Seat.{Seat}
use Rattle.stanza_model.specs.declared.stanza.Stanza.{Stanza}
use Rattle.stanza_model.specs.declared.stanza.Stanza.TheVariants.{Message, Presence, Iq, Faulty}
use Rattle.muc_roles.specs.Roles.{governs, is_owner}
use Rattle.muc_room.specs.Entering.{unless_refused}
use Rattle.muc_room.specs.Seats.{affiliation_in, affiliation_of, holder_of, occupant_of}
use Rattle.muc_room.specs.States.{is_of}
use Rattle.muc_admin.specs.Administration as administration
use Rattle.muc_admin.specs.Administration.{admin, admin_as, admin_by, is_wrong_count, list_affiliation, list_as, list_by, list_role, set_wanted}
use Rattle.muc_admin.specs.Afterwards.{after}
use Rattle.muc_settings.specs.Drafts.{is_wrong, lacks_password, lacks_type, put_all, draft_of}
use Rattle.muc_owner.specs.Invitations.{has_call, invitation_of}
use Rattle.muc_owner.specs.Inviting as inviting
use Rattle.muc_owner.specs.Inviting.{becomes_member, called_by, called_in, copies, invite, invite_refusal, invites, made_member, may_call}
use Rattle.muc_admin.specs.Items.{is_garbled, items_of, only_item, wanted_by}
use Rattle.muc_admin.specs.Listings.{is_same_affiliation, is_same_role}
use Rattle.muc_owner.specs.Owning as owning
use Rattle.muc_owner.specs.Owning.{configures, destroy_in, destroys_by, is_cancel, owner, owner_as, owner_by, set_as, set_form}
use Rattle.muc_admin.specs.Refusals.{is_moderating}
use Rattle.muc_admin.specs.Sets.{after_all, all_effects, done, first_refusal, gone_if_left, has_occupants}
use Rattle.muc_admin.specs.Telling.{affiliation_told, all_told, effects_of, kicked, leaving, new_role, removal_code, role_told, told, told_if}
use Rattle.muc_owner.specs.declared.invitation.Invitation.{Invitation}
use Rattle.muc_admin.specs.declared.item.Wanted.{Wanted}
use Rattle.muc_admin.specs.declared.item.Wanted.TheVariants as wanted
use Rattle.house_model.proofs.Founds.{append_all, either_all}
use Rattle.house_model.proofs.RoomSuits.{Easy, refused_easy}

unless_easy : (who : Here) (st : Stanza) (c : Option Condition) (es : List stanza.Effect) → AllByRecursion Easy es
    → AllByRecursion Easy (unless_refused who st c es)
unless_easy who st None es easy = easy
unless_easy who st (Some c) es easy = refused_easy who st c

-- what comes of an item

leaving_easy : (n : ℕ) (seats : List Seat) → AllByRecursion Easy (map (leaving n) seats)
leaving_easy n [] = tt
leaving_easy n (x ∷ seats) = (tt, leaving_easy n seats)

told_easy : (room : Room) (o : Occupant) (a : Affiliation) (role : Role) (code : ℕ) → AllByRecursion Easy (told room o a role code)
told_easy room o a Nobody code = (tt, leaving_easy room.number o.seats)
told_easy room o a Moderator code = (tt, (tt, tt))
told_easy room o a Participant code = (tt, (tt, tt))
told_easy room o a Visitor code = (tt, (tt, tt))

role_easy : (room : Room) (role : Role) (o : Option Occupant) → AllByRecursion Easy (role_told room role o)
role_easy room role None = tt
role_easy room role (Some o) = either_all Easy (is_same_role o.role role) [] _ tt (told_easy room o o.affiliation role kicked)

all_told_easy : (room : Room) (address : Address) (a : Affiliation) (os : List Occupant) → AllByRecursion Easy (all_told room address a os)
all_told_easy room address a [] = tt
all_told_easy room address a (o ∷ os) =
    append_all Easy (told_if room address a o) (all_told room address a os)
    (either_all Easy (is_of address o) _ [] (told_easy room o a (new_role room.config a) (removal_code a)) tt)
    (all_told_easy room address a os)

affiliation_easy : (room : Room) (address : Address) (a : Affiliation) → AllByRecursion Easy (affiliation_told room address a)
affiliation_easy room address a = (tt, all_told_easy room address a room.occupants)

item_easy : (room : Room) (w : Wanted) → AllByRecursion Easy (effects_of room w)
item_easy room (wanted.Role nick role) = role_easy room role (holder_of nick room.occupants)
item_easy room (wanted.Affiliation address a) =
    either_all Easy (is_same_affiliation (affiliation_of address room.affiliations) a) [] _ tt (affiliation_easy room address a)
item_easy room wanted.Garbled = tt

items_easy : (room : Room) (ws : List Wanted) → AllByRecursion Easy (all_effects room ws)
items_easy room [] = tt
items_easy room (w ∷ ws) = append_all Easy (effects_of room w) (all_effects (after w room) ws) (item_easy room w) (items_easy (after w room) ws)

left_easy : (had : Bool) (room : Room) → AllByRecursion Easy (gone_if_left had room)
left_easy had room = either_all Easy (had && not (has_occupants room) && not room.config.persistent) _ [] (tt, tt) tt

done_easy : (room : Room) (who : Here) (request : Stanza) (ws : List Wanted) → AllByRecursion Easy (done room who request ws)
done_easy room who request ws =
    append_all Easy (all_effects room ws ++ gone_if_left (has_occupants room) (after_all ws room)) _
    (append_all Easy (all_effects room ws) _ (items_easy room ws) (left_easy (has_occupants room) (after_all ws room))) (tt, tt)

-- requests about roles and affiliations

list_affiliation_easy : (room : Room) (who : Here) (request : Stanza) (a : Option Affiliation) → AllByRecursion Easy (list_affiliation room who request a)
list_affiliation_easy room who request None = refused_easy who request BadRequest
list_affiliation_easy room who request (Some a) =
    either_all Easy (governs (affiliation_in room who)) _ _ (tt, tt) (refused_easy who request Forbidden)

list_role_easy : (room : Room) (who : Here) (request : Stanza) (role : Option Role) → AllByRecursion Easy (list_role room who request role)
list_role_easy room who request None = refused_easy who request BadRequest
list_role_easy room who request (Some role) =
    either_all Easy (is_moderating (occupant_of who.session room.occupants)) _ _ (tt, tt) (refused_easy who request Forbidden)

list_as_easy : (room : Room) (who : Here) (request : Stanza) (a role : Option (List ℕ)) → AllByRecursion Easy (list_as room who request a role)
list_as_easy room who request (Some a) None = list_affiliation_easy room who request (affiliation_named a)
list_as_easy room who request None (Some role) = list_role_easy room who request (role_named role)
list_as_easy room who request (Some a) (Some role) = refused_easy who request BadRequest
list_as_easy room who request None None = refused_easy who request BadRequest

list_easy : (room : Room) (who : Here) (request : Stanza) (e : Option Element) → AllByRecursion Easy (list_by room who request e)
list_easy room who request None = refused_easy who request BadRequest
list_easy room who request (Some e) = list_as_easy room who request (attr_of (codes "affiliation") e.attrs) (attr_of (codes "role") e.attrs)

wanted_easy : (room : Room) (who : Here) (request : Stanza) (ws : List Wanted) → AllByRecursion Easy (set_wanted room who request ws)
wanted_easy room who request ws =
    either_all Easy (list_any is_garbled ws) _ _ (refused_easy who request BadRequest)
    (unless_easy who request (first_refusal room who ws) (done room who request ws) (done_easy room who request ws))

admin_as_easy : (room : Room) (who : Here) (request : Stanza) (form : IqForm) (query : Element) → AllByRecursion Easy (admin_as room who request form query)
admin_as_easy room who request iq.Get query = list_easy room who request (only_item query)
admin_as_easy room who request iq.Set query =
    either_all Easy (is_wrong_count (length (items_of query.children))) _ _ (refused_easy who request BadRequest)
    (wanted_easy room who request (map wanted_by (items_of query.children)))
admin_as_easy room who request iq.Result query = tt
admin_as_easy room who request iq.Error query = tt

admin_by_easy : (room : Room) (who : Here) (request : Stanza) (form : IqForm) (query : Option Element)
    → AllByRecursion Easy (admin_by room who request form query)
admin_by_easy room who request form None = tt
admin_by_easy room who request form (Some query) = admin_as_easy room who request form query

pub admin_easy : (room : Room) (who : Here) (st : Stanza) → AllByRecursion Easy (admin room who st)
admin_easy room who (Iq to id form e) = admin_by_easy room who (Iq to id form e) form (administration.query_in e)
admin_easy room who (Message to form e) = tt
admin_easy room who (Presence to form e) = tt
admin_easy room who (Faulty kind to id answered c) = tt

-- requests of owners

configures_easy : (room : Room) (who : Here) (request : Stanza) (fields : List Field) → AllByRecursion Easy (configures room who request fields)
configures_easy room who request fields =
    either_all Easy (list_any is_wrong fields) _ _ (refused_easy who request BadRequest)
    (either_all Easy (lacks_type fields) _ _ (refused_easy who request BadRequest)
    (either_all Easy (lacks_password (put_all fields (draft_of room.config))) _ _ (refused_easy who request NotAcceptable) (tt, (tt, (tt, tt)))))

destroy_easy : (room : Room) (who : Here) (request : Stanza) (destroy : Option Element) → AllByRecursion Easy (destroys_by room who request destroy)
destroy_easy room who request (Some destroy) = (tt, (tt, (tt, tt)))
destroy_easy room who request None = refused_easy who request BadRequest

form_easy : (room : Room) (who : Here) (request : Stanza) (x : Element) (form : Option DataForm) (destroy : Option Element)
    → AllByRecursion Easy (set_form room who request x form destroy)
form_easy room who request x (Some form) destroy = configures_easy room who request form.fields
form_easy room who request x None destroy =
    either_all Easy (is_cancel x) _ _ (either_all Easy room.locked _ _ (tt, (tt, (tt, tt))) (tt, tt)) (destroy_easy room who request destroy)

set_easy : (room : Room) (who : Here) (request : Stanza) (x destroy : Option Element) → AllByRecursion Easy (set_as room who request x destroy)
set_easy room who request (Some x) destroy = form_easy room who request x (form_of x) destroy
set_easy room who request None destroy = destroy_easy room who request destroy

owner_as_easy : (room : Room) (who : Here) (request : Stanza) (form : IqForm) (query : Element) → AllByRecursion Easy (owner_as room who request form query)
owner_as_easy room who request iq.Get query = (tt, tt)
owner_as_easy room who request iq.Set query = set_easy room who request (owning.x_in query) (destroy_in query)
owner_as_easy room who request iq.Result query = tt
owner_as_easy room who request iq.Error query = tt

owner_by_easy : (room : Room) (who : Here) (request : Stanza) (form : IqForm) (query : Option Element)
    → AllByRecursion Easy (owner_by room who request form query)
owner_by_easy room who request form None = tt
owner_by_easy room who request form (Some query) =
    either_all Easy (is_owner (affiliation_in room who)) _ _ (owner_as_easy room who request form query) (refused_easy who request Forbidden)

pub owner_easy : (room : Room) (who : Here) (st : Stanza) → AllByRecursion Easy (owner room who st)
owner_easy room who (Iq to id form e) = owner_by_easy room who (Iq to id form e) form (owning.query_in e)
owner_easy room who (Message to form e) = tt
owner_easy room who (Presence to form e) = tt
owner_easy room who (Faulty kind to id answered c) = tt

-- invitations

copies_easy : (rest : List ℕ) (hs : List Here) → AllByRecursion Easy (copies rest hs)
copies_easy rest [] = tt
copies_easy rest (h ∷ hs) = (tt, copies_easy rest hs)

called_easy : (room : Room) (who : Here) (st : Stanza) (hs : List Here) (i : Option Invitation) → AllByRecursion Easy (called_by room who st hs i)
called_easy room who st hs None = refused_easy who st BadRequest
called_easy room who st hs (Some i) =
    either_all Easy i.declined _ _ (copies_easy _ hs)
    (unless_easy who st (invite_refusal room who i.address) (invites room who hs i)
    (append_all Easy (made_member room i.address) _
    (either_all Easy (becomes_member room i.address) _ [] (tt, tt) tt)
    (copies_easy _ hs)))

called_in_easy : (room : Room) (who : Here) (st : Stanza) (hs : List Here) (x : Option Element) → AllByRecursion Easy (called_in room who st hs x)
called_in_easy room who st hs None = tt
called_in_easy room who st hs (Some x) =
    either_all Easy (has_call x) _ []
    (either_all Easy (may_call room who x) _ _ (called_easy room who st hs (invitation_of x)) (refused_easy who st NotAcceptable)) tt

pub invite_easy : (room : Room) (who : Here) (st : Stanza) (hs : List Here) → AllByRecursion Easy (invite room who st hs)
invite_easy room who (Message to form e) hs = called_in_easy room who (Message to form e) hs (inviting.x_in e)
invite_easy room who (Presence to form e) hs = tt
invite_easy room who (Iq to id form e) hs = tt
invite_easy room who (Faulty kind to id answered c) hs = tt
