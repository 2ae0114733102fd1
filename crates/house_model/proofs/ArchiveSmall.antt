-- What is read of archives that are short is small.
use Rattle.std.proofs.Common.{◌≡◌, ℕ, ◌+◌, ◌-◌, ◌≤◌, List, [], ◌∷◌, length, false, Option, Some, None, sym, subst, arith}
use Rattle.std.specs.Prelude.{IfSome}
use Rattle.std.specs.List.{AllByRecursion}
use Rattle.jid_core.specs.Addresses.{Address, address_text, same_bare}
use Rattle.stanza_tree.specs.Spelling.{text}
use Rattle.stanza_model.specs.Replies.{one_child, result_of}
use Rattle.stanza_model.specs.Stanzas.{id_in, to_in}
use Rattle.stanza_model.specs.declared.stanza.Stanza.{Stanza}
use Rattle.muc_service.specs.Rooms.{Hosted}
use Rattle.rsm_paging.specs.declared.ask.Row.{Row}
use Rattle.archive_table.specs.Archives.{Rows}
use Rattle.archive_table.specs.Pages.{page_of, shown}
use Rattle.mam_wire.specs.Answers.{fin}
use Rattle.mam_wire.specs.Queries.{is_long}
use Rattle.mam_wire.specs.declared.query.Query.{Query}
use Rattle.mam_wire.proofs.StampLemmas.{stamp_length}
use Rattle.house_model.specs.ArchiveLookups.{delayed, most_past, past_in, rows_by, rows_in}
use Rattle.house_model.specs.Archives.{shown_to}
use Rattle.house_model.specs.Fitting.{AreShortRows, IsNumbered, IsShortAddress, IsShortRoom, IsShortScene, IsSmall}
use Rattle.house_model.specs.Lookups.{here}
use Rattle.house_model.specs.RoomLookups.{room_for}
use Rattle.house_model.specs.Routing.{Scene}
use Rattle.house_model.proofs.ArchiveSizes.{HasFewId, page-le}
use Rattle.house_model.proofs.PresenceCases.{IsAsked}
use Rattle.house_model.proofs.ReplySizes.{spelt_length}
use Rattle.house_model.proofs.ResultSizes.{IsShortDelayed, shown-small}
use Rattle.house_model.proofs.RoomCases.{drop_all, found_all, map_all}
use Rattle.house_model.proofs.ShownRows.{shown-all}

-- rows that are short and have numbers of 64 bits, and no more of them
record IsShortPage (rows : List Row) : Type 0 where
  pub texts : AreShortRows rows
  pub ids : AllByRecursion HasFewId rows
  pub count : length rows ≤ 18446744073709551618

ids-few : (made : ℕ) (rows : List Row) → made ≤ 18446744073709551618 → AllByRecursion (λ (row : Row). row.id ≤ made) rows
    → AllByRecursion HasFewId rows
ids-few made [] few all = tt
ids-few made (r ∷ rows) few all = ((let low = all.0 in omega (arith, low, few)), ids-few made rows few all.1)

page-of : (x : Rows) → x.made ≤ 18446744073709551618 → AreShortRows x.kept → IsNumbered x → IsShortPage x.kept
page-of x few texts numbered = record {
  texts = texts;
  ids = ids-few x.made x.kept few numbered.ids;
  count = (let count = numbered.count in omega (arith, few, count));
}

both-all : (rows : List Row) → AreShortRows rows → AllByRecursion HasFewId rows
    → AllByRecursion (λ (row : Row). (length row.text ≤ 300000) × HasFewId row) rows
both-all [] texts ids = tt
both-all (r ∷ rows) texts ids = ((texts.0, ids.0), both-all rows texts.1 ids.1)

module _ (o : Scene) (short : IsShortScene o) where
  made-of : (own : List ℕ) → (o.world.archives.users own).made ≤ 18446744073709551616
  made-of own = (let low = short.rows.users own in omega (arith, low))

  -- the rooms' archives
  pub few_in : (h : Hosted) → (rows_in o.world.archives h).made ≤ 18446744073709551616
  few_in h = (let low = short.rows.rooms h.room.number in omega (arith, low))

  -- the number of the next row
  pub row_few : (user : Option (List ℕ)) → (rows_by o.world.archives user).made + 1 ≤ 18446744073709551618
  row_few None = omega arith
  row_few (Some user) = (let low = made-of user in omega (arith, low))

  page-at : (st : Stanza) (from : Option Address) (rows : List Row) → IsAsked o st from rows → IsShortPage rows
  page-at st None rows asked =
      subst IsShortPage (sym asked.1)
      (page-of (o.world.archives.users asked.0) (let low = made-of asked.0 in omega (arith, low)) (short.archives.users asked.0)
      (short.numbers.users asked.0))
  page-at st (Some from) rows asked =
      subst IsShortPage (sym asked.3)
      (page-of (rows_in o.world.archives asked.0) (let low = few_in asked.0 in omega (arith, low)) (short.archives.rooms asked.0.room.number)
      (short.numbers.rooms asked.0.room.number))

  from-short : (st : Stanza) (from : Option Address) (rows : List Row) → IsAsked o st from rows → IfSome from IsShortAddress
  from-short st None rows asked = tt
  from-short st (Some from) rows asked =
      subst IsShortAddress (sym asked.2)
      (subst (λ (f : Option Hosted). IfSome f (λ h. IsShortAddress h.room.address)) asked.1 (hosts (to_in st)))
    where
      each : (hs : List Hosted) → AllByRecursion (λ (h : Hosted). IsShortRoom h.room) hs
          → AllByRecursion (λ (h : Hosted). IsShortAddress h.room.address) hs
      each [] all = tt
      each (h ∷ hs) all = (all.0.address, each hs all.1)

      hosts : (to : Option Address) → IfSome (room_for o.world.rooms to) (λ h. IsShortAddress h.room.address)
      hosts None = tt
      hosts (Some to) =
          found_all (λ (h : Hosted). IsShortAddress h.room.address) (λ h. same_bare h.room.address to) o.world.rooms.hosted
          (each o.world.rooms.hosted short.rooms)

  pub shown_small : (s : ℕ) (st : Stanza) → IsShortAddress (here o.world s).address → (from : Option Address) (rows : List Row) (q : Query)
      → IsAsked o st from rows → is_long q.queryid ≡ false
      → AllByRecursion (λ row. IsSmall (shown_to (here o.world s) from q.queryid row)) (shown rows q.filter q.ask)
  shown_small s st own from rows q asked fits =
      let page : IsShortPage rows = page-at st from rows asked in
      each (shown rows q.filter q.ask) (shown-all (λ (row : Row). (length row.text ≤ 300000) × HasFewId row) rows q.filter q.ask
      (both-all rows page.texts page.ids))
    where
      each : (xs : List Row) → AllByRecursion (λ (row : Row). (length row.text ≤ 300000) × HasFewId row) xs
          → AllByRecursion (λ row. IsSmall (shown_to (here o.world s) from q.queryid row)) xs
      each [] all = tt
      each (r ∷ xs) all =
          (shown-small (here o.world s) from q.queryid r own (from-short st from rows asked) fits all.0.0 all.0.1, each xs all.1)

  pub page_le : (st : Stanza) (from : Option Address) (rows : List Row) (q : Query) → IsAsked o st from rows
      → IfSome (to_in st) (λ a. length (address_text a) ≤ 3071) → spelt_length (id_in st) ≤ 196608
      → length (text (result_of st (one_child (fin (page_of rows q.filter q.ask))))) ≤ 500000
  page_le st from rows q asked to id =
      let page : IsShortPage rows = page-at st from rows asked in page-le st rows q.filter q.ask page.count page.ids to id

  -- what was said last in a room
  pub past_short : (h : Hosted) → AllByRecursion IsShortDelayed (past_in o.world.archives h)
  past_short h =
      let rows : List Row = (rows_in o.world.archives h).kept in
      map_all IsShortDelayed (λ (row : Row). length row.text ≤ 300000) delayed (λ row is. (is, omega (arith, stamp_length row.stamp)))
      _ (drop_all (λ (row : Row). length row.text ≤ 300000) (length rows - most_past) rows (short.archives.rooms h.room.number))
