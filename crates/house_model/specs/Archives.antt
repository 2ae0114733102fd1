-- Requests for archives (XEP-0313, 4 and 5).
use Rattle.std.specs.Prelude.{ℕ, List, [], ◌∷◌, ◌++◌, map, codes, Bool, true, false, ◌||◌, Option, Some, None, Result, Ok, Err}
use Rattle.std.specs.Prelude.{if◌then◌else◌}
use Rattle.jid_core.specs.Addresses.{Address, address_text}
use Rattle.stanza_tree.specs.Children.{child_of}
use Rattle.stanza_tree.specs.declared.frame.Origin.TheVariants.{Direct}
use Rattle.stanza_tree.specs.declared.node.Element.{Element}
use Rattle.stanza_model.specs.Replies.{one_child, refused, result_of, said_to}
use Rattle.stanza_model.specs.declared.condition.Condition.TheVariants.{BadRequest, FeatureNotImplemented, Forbidden, ItemNotFound}
use Rattle.stanza_model.specs.declared.effect.Effect.{Effect}
use Rattle.stanza_model.specs.declared.effect.Effect.TheVariants.{Queue}
use Rattle.stanza_model.specs.declared.here.Here.{Here}
use Rattle.stanza_model.specs.declared.kinds.IqForm.TheVariants.{Set}
use Rattle.stanza_model.specs.declared.room.Affiliation.{Affiliation}
use Rattle.stanza_model.specs.declared.room.Affiliation.TheVariants.{Owner, Admin, Member, Neither, Outcast}
use Rattle.stanza_model.specs.declared.stanza.Stanza.{Stanza}
use Rattle.stanza_model.specs.declared.stanza.Stanza.TheVariants.{Iq}
use Rattle.muc_room.specs.Seats.{affiliation_in}
use Rattle.muc_service.specs.Rooms.{Hosted, is_in}
use Rattle.rsm_paging.specs.Pages.{asked_id, is_known}
use Rattle.rsm_paging.specs.declared.ask.Row.{Row}
use Rattle.archive_table.specs.Archives.{Archives}
use Rattle.archive_table.specs.Pages.{page_of, shown}
use Rattle.mam_wire.specs.Answers.{fin, mam_space}
use Rattle.mam_wire.specs.Forms.{query_form}
use Rattle.mam_wire.specs.Queries.{query_of}
use Rattle.mam_wire.specs.Results.{result_message}
use Rattle.mam_wire.specs.declared.query.Query.{Query}
use Rattle.mam_wire.specs.declared.fault.QueryFault.{QueryFault}
use Rattle.mam_wire.specs.declared.fault.QueryFault.TheVariants as fault
use Rattle.house_model.specs.ArchiveLookups.{rows_in}
use Rattle.house_model.specs.Requests.{gets}

-- Who may read the archive of a room: those who are in it, and those who are something to it.

abbrev pub is_trusted : Affiliation → Bool
is_trusted Owner = true
is_trusted Admin = true
is_trusted Member = true
is_trusted Neither = false
is_trusted Outcast = false

abbrev pub may_read : Hosted → Here → Bool
may_read h who = is_in who.session h || is_trusted (affiliation_in h.room who)

-- What is answered.

-- XEP-0313, 4.2: each row of the page, in a message from the room, or, of one's own archive, from nobody
abbrev pub shown_to : Here → (from : Option Address) → (queryid : Option (List ℕ)) → Row → Effect
shown_to who from queryid row = Queue who.session (address_text who.address) (result_message from queryid row) Direct

-- XEP-0313, 4.3: then what the page is
abbrev pub answered : Here → Stanza → (from : Option Address) → List Row → Query → List Effect
answered who st from rows q =
    map (shown_to who from q.queryid) (shown rows q.filter q.ask)
    ++ said_to who (result_of st (one_child (fin (page_of rows q.filter q.ask)))) ∷ []

-- XEP-0059, 2.2 and 2.3: a page after or before a row that isn't kept isn't found
abbrev pub paged : Here → Stanza → (from : Option Address) → List Row → Result Query QueryFault → List Effect
paged who st from rows (Ok q) =
    if is_known rows (asked_id q.ask.after q.ask.before) then answered who st from rows q else refused who st ItemNotFound
paged who st from rows (Err fault.NotImplemented) = refused who st FeatureNotImplemented
paged who st from rows (Err fault.BadRequest) = refused who st BadRequest
paged who st from rows (Err fault.NoMemory) = refused who st BadRequest

-- XEP-0313, 4.1: a query is an iq of the type `set`
abbrev pub query_in : Stanza → Option Element
query_in (Iq to id Set e) = child_of mam_space (codes "query") e.children
query_in st = None

abbrev pub queried : Here → Stanza → (from : Option Address) → List Row → Option Element → List Effect
queried who st from rows None = refused who st BadRequest
queried who st from rows (Some query) = paged who st from rows (query_of query)

-- XEP-0313, 4.1.5: one of the type `get` asks for the form of a query
abbrev pub asked : (may_read : Bool) → Here → Stanza → (from : Option Address) → List Row → List Effect
asked may who st from rows =
    if gets mam_space (codes "query") st then said_to who (result_of st (one_child query_form)) ∷ []
    else if may then queried who st from rows (query_in st)
    else refused who st Forbidden

-- of one's own archive
abbrev pub archived_of : Archives → (own : List ℕ) → Here → Stanza → List Effect
archived_of a own who st = asked true who st None (a.users own).kept

-- of a room's
abbrev pub archived : Archives → Here → Stanza → Option Hosted → List Effect
archived a who st None = refused who st ItemNotFound
archived a who st (Some h) = asked (may_read h who) who st (Some h.room.address) (rows_in a h).kept
