-- A house before its first event.
use Rattle.std.proofs.Common.{◌≡◌, ℕ, zero, suc, List, [], replicate, get_or, refl, ◌∙◌, ◌≤◌, true, Option, Some, None, subst, arith, sym, length}
use Rattle.std.proofs.lemmas.List.{length-replicate}
use Rattle.jid_core.specs.Addresses.{Address}
use Rattle.session_table.specs.declared.line.Line.TheVariants.{Empty, Logged, Bound}
use Rattle.session_table.specs.Tables.{TableRecord, new_table, line_of}
use Rattle.house_model.specs.declared.answer.Answer.{Answer}
use Rattle.house_model.specs.declared.limits.Limits.{Limits}
use Rattle.house_model.specs.Fitting.{IsNumbered}
use Rattle.house_model.specs.States.{opening_with, keep, empty_line}
use Rattle.archive_table.specs.Archives.{no_archives, no_rows}
use Rattle.archive_table.specs.Tables as archive
use Rattle.contact_table.specs.Books.{empty_book, Book}
use Rattle.contact_table.specs.Tables.{BookRecord}
use Rattle.muc_service.specs.Rooms.{Rooms, no_rooms}
use Rattle.std.specs.List.{list_all}
use Rattle.jid_core.specs.Names.{are_distinct}
use Rattle.jid_core.specs.Preparation.{is_local}
use Rattle.session_table.specs.Sessions.{SessionRecord}
use Rattle.roster_laws.specs.Keeping.{AreKept}
use Rattle.roster_laws.proofs.KeepLemmas.{none_kept}
use Rattle.house_core.specs.Wholes.{IsWhole}
use Rattle.house_world.specs.Hosting.{AreArchived}
use Rattle.house_world.specs.Keeping.{AreShortNames}
use Rattle.house_core.specs.Houses.{HouseRecord, held}
use Rattle.house_world.specs.Views.{lines_of}

same_all : {A : Type 0} (n i : ℕ) (v : A) → get_or (replicate n v) i v ≡ v
same_all zero i v = refl
same_all (suc n) zero v = refl
same_all (suc n) (suc i) v = same_all n i v

-- what is seen of it
abbrev pub new_house : Address → List (List ℕ) → Limits → (workers spare : ℕ) → BookRecord → archive.TableRecord → HouseRecord
new_house domain users limits workers spare book archives = record {
  domain = domain;
  users = users;
  limits = limits;
  turns = 0;
  moment = 0;
  table = new_table workers spare;
  answers = replicate workers [];
  book = book;
  rooms = no_rooms;
  archives = archives;
}

line_empty : (workers spare w : ℕ) → lines_of (new_table workers spare) (replicate workers []) w ≡ empty_line
line_empty workers spare w = λ i. record { stage = same_all workers w Empty i; answers = same_all {A = List Answer} workers w [] i }

pub new_held : (domain : Address) (users : List (List ℕ)) (limits : Limits) (workers spare : ℕ) (book : BookRecord) (archives : archive.TableRecord)
    → book.book ≡ empty_book → archive.archives_of archives ≡ no_archives
    → held (new_house domain users limits workers spare book archives) ≡ keep (opening_with limits domain users workers)
new_held domain users limits workers spare book archives none unsaid = λ i. record {
  head = record { domain = domain; users = users; workers = length-replicate workers Empty i; limits = limits; turns = 0; moment = 0 };
  world = record {
    opened = 0;
    book = none i;
    rooms = no_rooms;
    archives = unsaid i;
    lines = λ w. line_empty workers spare w i;
    made = 0;
    sessions = (keep (opening_with limits domain users workers)).world.sessions;
  };
}

pub held_new : (domain domain' : Address) (users users' : List (List ℕ)) (limits : Limits) (workers : ℕ) (t : TableRecord) (answers : List (List Answer))
    (book : BookRecord) (rooms : Rooms) (archives : archive.TableRecord) → domain' ≡ domain → users' ≡ users → t ≡ new_table workers t.spare
    → answers ≡ replicate workers [] → book.book ≡ empty_book → rooms ≡ no_rooms → archive.archives_of archives ≡ no_archives
    → held (record {
      domain = domain';
      users = users';
      limits = limits;
      turns = 0;
      moment = 0;
      table = t;
      answers = answers;
      book = book;
      rooms = rooms;
      archives = archives;
    }) ≡ keep (opening_with limits domain users workers)
held_new domain domain' users users' limits workers t answers book rooms archives named known lines none empty without unsaid =
    (λ i. held (record {
      domain = named i;
      users = known i;
      limits = limits;
      turns = 0;
      moment = 0;
      table = lines i;
      answers = none i;
      book = book;
      rooms = without i;
      archives = archives;
    }))
    ∙ new_held domain users limits workers t.spare book archives empty unsaid

-- all that is true of a house is true of it
new_lines : (workers spare w : ℕ) → line_of w (new_table workers spare) ≡ Empty
new_lines workers spare w = same_all workers w Empty

no_session : {P : Type 0} (x : SessionRecord) → ◌≡◌ {A = Option SessionRecord} None (Some x) → P
no_session x is = absurd (cc)

none_numbered : IsNumbered no_rows
none_numbered = record { ids = tt; count = omega arith }

none_archived : AreArchived 0 no_archives
none_archived = record {
  rows = record { users = λ user. omega arith; rooms = λ n. omega arith };
  numbered = record { users = λ user. none_numbered; rooms = λ n. none_numbered };
  short = record { users = λ user. tt; rooms = λ n. tt; bytes = omega arith };
}

fresh_whole : (domain : List ℕ) (users : List (List ℕ)) (workers spare : ℕ) (book : BookRecord) (archives : archive.TableRecord)
    → list_all is_local users ≡ true → are_distinct users ≡ true → length users ≤ 65536 → book.domain ≡ domain → book.book ≡ empty_book
    → archive.archives_of archives ≡ no_archives
    → IsWhole domain users 0 0 (new_table workers spare) (replicate workers []) book no_rooms archives
fresh_whole domain users workers spare book archives prepared differ few served empty unsaid = record {
  prepared = prepared;
  differ = differ;
  few = few;
  passed = omega arith;
  answered = length-replicate workers [] ∙ sym (length-replicate workers Empty);
  known = λ w c u is. absurd (let z : Empty ≡ Logged c u = sym (new_lines workers spare w) ∙ is in cc);
  tied = record {
    bound = λ w c s is. absurd (let z : Empty ≡ Bound c s = sym (new_lines workers spare w) ∙ is in cc);
    holds = λ s w x is holder. no_session x is;
    each = λ s x is. no_session x is;
  };
  counted = record {
    opened = omega arith;
    made = omega arith;
    sent = λ s x is. no_session x is;
    acted = λ s x is. no_session x is;
  };
  served = served;
  names = subst (λ (k : Book). AreShortNames k.asked) (sym empty) tt;
  rosters = subst (AreKept domain) (sym empty) (none_kept domain);
  hosted = record { made = omega arith; stays = omega arith; items = omega arith; numbered = tt; short = tt };
  archived = subst (AreArchived 0) (sym unsaid) none_archived;
}

pub new_whole : (domain : List ℕ) (users : List (List ℕ)) (workers : ℕ) (t : TableRecord) (answers : List (List Answer)) (book : BookRecord)
    (rooms : Rooms) (archives : archive.TableRecord) → list_all is_local users ≡ true → are_distinct users ≡ true → length users ≤ 65536
    → t ≡ new_table workers t.spare → answers ≡ replicate workers []
    → book.domain ≡ domain → book.book ≡ empty_book → rooms ≡ no_rooms → archive.archives_of archives ≡ no_archives
    → IsWhole domain users 0 0 t answers book rooms archives
new_whole domain users workers t answers book rooms archives prepared differ few lines none served empty without unsaid =
    subst (λ (u : TableRecord). IsWhole domain users 0 0 u answers book rooms archives) (sym lines)
    (subst (λ (xs : List (List Answer)). IsWhole domain users 0 0 (new_table workers t.spare) xs book rooms archives) (sym none)
    (subst (λ (r : Rooms). IsWhole domain users 0 0 (new_table workers t.spare) (replicate workers []) book r archives) (sym without)
    (fresh_whole domain users workers t.spare book archives prepared differ few served empty unsaid)))
