-- What is true of every house in memory.
use Rattle.std.specs.Prelude.{◌≡◌, ℕ, ◌≤◌, List, true, length}
use Rattle.std.specs.List.{list_all}
use Rattle.jid_core.specs.Names.{are_distinct}
use Rattle.jid_core.specs.Preparation.{is_local}
use Rattle.session_table.specs.Tables.{TableRecord}
use Rattle.archive_table.specs.Tables as archive
use Rattle.contact_table.specs.Tables.{BookRecord}
use Rattle.muc_service.specs.Rooms.{Rooms}
use Rattle.roster_laws.specs.Keeping.{AreKept}
use Rattle.house_model.specs.declared.answer.Answer.{Answer}
use Rattle.house_model.specs.Steps.{last_moment}
use Rattle.house_world.specs.Hosting.{AreArchived, AreHosted}
use Rattle.house_world.specs.Keeping.{AreShortNames}
use Rattle.house_world.specs.Wholes.{AreUsers, IsFew, IsTied}

pub record IsWhole (domain : List ℕ) (users : List (List ℕ)) (turns moment : ℕ) (t : TableRecord) (answers : List (List Answer))
    (book : BookRecord) (rooms : Rooms) (archives : archive.TableRecord) : Type 0 where
  pub prepared : list_all is_local users ≡ true
  pub differ : are_distinct users ≡ true
  pub few : length users ≤ 65536
  pub passed : moment ≤ last_moment
  pub answered : length answers ≡ length t.lines
  pub known : AreUsers (length users) t
  pub tied : IsTied t
  pub counted : IsFew turns t
  pub served : book.domain ≡ domain
  pub names : AreShortNames book.book.asked
  pub rosters : AreKept domain book.book
  pub hosted : AreHosted turns rooms
  pub archived : AreArchived turns (archive.archives_of archives)
