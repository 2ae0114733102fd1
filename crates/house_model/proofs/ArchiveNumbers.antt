-- Each row of an archive has one of the numbers that the archive gave, and there are no more rows than numbers.
use Rattle.std.proofs.Common.{ℕ, ◌+◌, ◌-◌, ◌≤◌, List, [], ◌∷◌, ◌++◌, length, ◌==◌, bytes_eq, sym, subst, arith, length-append}
use Rattle.std.specs.List.{AllByRecursion}
use Rattle.std.proofs.lemmas.List.{length-drop}
use Rattle.jid_core.specs.Addresses.{Address}
use Rattle.stanza_model.specs.declared.effect.Change.{Change}
use Rattle.stanza_model.specs.declared.effect.Change.TheVariants as change
use Rattle.stanza_model.specs.declared.effect.Effect as stanza
use Rattle.stanza_model.specs.declared.effect.Effect.TheVariants as effect
use Rattle.rsm_paging.specs.declared.ask.Row.{Row}
use Rattle.mam_archive.specs.Archives.{most_kept}
use Rattle.archive_table.specs.Archives.{Archives, Rows, filed, no_rows, row_for, with_row}
use Rattle.archive_table.specs.declared.filing.Filing.{Filing}
use Rattle.archive_table.specs.declared.filing.Filing.TheVariants.{OfUser, OfRoom, NoRoom}
use Rattle.house_model.specs.Effects.{Effect, Open, At, Begin, On, Note, Hosts, Files, apply, apply_all, archives_with}
use Rattle.house_model.specs.Fitting.{AreNumbered, IsNumbered}
use Rattle.house_model.specs.Histories.{Outcome, Made, Short, Turn, IsOpening, after, next, next_by}
use Rattle.house_model.specs.States.{State, World, keep}
use Rattle.house_model.specs.Steps.{turn, verdict}
use Rattle.house_model.specs.Traffic.{Traffic, whole}
use Rattle.house_model.specs.declared.event.Event.{Event}
use Rattle.house_model.proofs.Founds.{append_all}
use Rattle.house_model.proofs.RoomCases.{drop_all}
use Rattle.house_model.proofs.StayLemmas.{choose}

abbrev IsWithin : ℕ → Row → Type 0
IsWithin made row = row.id ≤ made

no_numbers : IsNumbered no_rows
no_numbers = record { ids = tt; count = omega arith }

later : (made : ℕ) (rows : List Row) → AllByRecursion (IsWithin made) rows → AllByRecursion (IsWithin (made + 1)) rows
later made [] all = tt
later made (r ∷ rows) all = ((let low = all.0 in omega (arith, low)), later made rows all.1)

one_more : (peer : Address) (text : List ℕ) (moment : ℕ) (x : Rows) → IsNumbered x → IsNumbered (with_row peer text moment x)
one_more peer text moment x is =
    let rows : List Row = x.kept ++ row_for x peer text moment ∷ [] in
    record {
      ids = drop_all (IsWithin (x.made + 1)) (length rows - most_kept) rows
          (append_all (IsWithin (x.made + 1)) x.kept (row_for x peer text moment ∷ []) (later x.made x.kept is.ids) (omega arith, tt));
      count = (let few = is.count in
          omega (arith, few, length-drop (length rows - most_kept) rows, length-append x.kept (row_for x peer text moment ∷ [])));
    }

-- one filing
pub filed_numbered : (f : Filing) (a : Archives) → AreNumbered a → AreNumbered (filed f a)
filed_numbered (OfUser user peer text moment) a are = record {
  users = λ other. choose IsNumbered (bytes_eq other user) (with_row peer text moment (a.users user)) (a.users other)
      (λ (_ : _). one_more peer text moment (a.users user) (are.users user)) (λ (_ : _). are.users other);
  rooms = are.rooms;
}
filed_numbered (OfRoom n peer text moment) a are = record {
  users = are.users;
  rooms = λ other. choose IsNumbered (other == n) (with_row peer text moment (a.rooms n)) (a.rooms other)
      (λ (_ : _). one_more peer text moment (a.rooms n) (are.rooms n)) (λ (_ : _). are.rooms other);
}
filed_numbered (NoRoom n) a are = record {
  users = are.users;
  rooms = λ other. choose IsNumbered (other == n) no_rows (a.rooms other) (λ (_ : _). no_numbers) (λ (_ : _). are.rooms other);
}

-- one effect

with_change : (c : Change) (a : Archives) → AreNumbered a → AreNumbered (archives_with (effect.Set c) a)
with_change (change.RoomGone n) a are = filed_numbered (NoRoom n) a are
with_change c a are = are

with_numbered : (x : stanza.Effect) (a : Archives) → AreNumbered a → AreNumbered (archives_with x a)
with_numbered (effect.Set c) a are = with_change c a are
with_numbered (effect.Queue s to rest origin) a are = are
with_numbered (effect.Broadcast n item) a are = are
with_numbered (effect.Enter n s address nick role) a are = are
with_numbered (effect.Leave n s) a are = are
with_numbered (effect.Keep user peer text moment) a are = are

one_numbered : (world : World Traffic) (e : Effect) → AreNumbered world.archives → AreNumbered (apply whole world e).archives
one_numbered world (Open w) are = are
one_numbered world (At w op) are = are
one_numbered world (Begin w c address) are = are
one_numbered world (On s op) are = are
one_numbered world (Note change) are = are
one_numbered world (Hosts x) are = with_numbered x world.archives are
one_numbered world (Files filing) are = filed_numbered filing world.archives are

all_numbered : (world : World Traffic) (es : List Effect) → AreNumbered world.archives → AreNumbered (apply_all whole world es).archives
all_numbered world [] are = are
all_numbered world (e ∷ es) are = all_numbered (apply whole world e) es (one_numbered world e are)

-- and each turn

turn_numbered : (st : State) (e : Event) (out : Outcome) → AreNumbered st.world.archives → AreNumbered (next_by st e out).world.archives
turn_numbered st e (Made reply text) are = all_numbered st.world (verdict (keep (turn e st)) e).effects are
turn_numbered st e Short are = are

after_numbered : (st : State) (h : List Turn) → AreNumbered st.world.archives → AreNumbered (after st h).world.archives
after_numbered st [] are = are
after_numbered st (x ∷ more) are = after_numbered (next st x) more (turn_numbered st x.event x.outcome are)

pub always_numbered : (o : State) (h : List Turn) → IsOpening o → AreNumbered (after o h).world.archives
always_numbered o h starts =
    after_numbered o h
    (subst (λ (st : State). AreNumbered st.world.archives) (sym starts.4) (record { users = λ user. no_numbers; rooms = λ n. no_numbers }))
