-- The session of an address.
use Rattle.std.proofs.Common.{◌≡◌, ℕ, ◌&&◌, Bool, true, List, Option, Some, None, refl, sym, ap, ◌∙◌}
use Rattle.jid_core.specs.Addresses.{Address, same_address}
use Rattle.session_table.specs.declared.life.Life.{Life}
use Rattle.session_table.specs.declared.life.Life.TheVariants.{Live, Over}
use Rattle.session_table.specs.declared.line.Line as stage
use Rattle.session_table.specs.Sessions.{SessionRecord}
use Rattle.session_table.specs.Tables.{Rises, TableRecord, number_at, session_of}
use Rattle.house_model.specs.declared.answer.Answer.{Answer}
use Rattle.house_model.specs.Numbered.{least}
use Rattle.house_model.specs.States.{World, Kept}
use Rattle.house_model.specs.Lookups.{is_there_by, is_there, is_at, session_at}
use Rattle.house_model.specs.Traffic.{KeptTraffic}
use Rattle.archive_table.specs.Archives.{Archives}
use Rattle.contact_table.specs.Books.{Book}
use Rattle.muc_service.specs.Rooms.{Rooms}
use Rattle.house_world.specs.Views.{hold_by, session_by, sessions_of, world_of}
use Rattle.house_world.specs.Wholes.{IsSession, IsTied}
use Rattle.house_world.proofs.DueLemmas.{first_is_least, passes}

-- which sessions are there
there_by : (l : Life) (h : Option ℕ) (lines : List stage.Line) (b : Bool) → (l ≡ Live → h ≡ None → b ≡ true)
    → is_there_by (hold_by l h lines) b ≡ true
there_by (Over cause) h lines b away = refl
there_by Live None lines b away = away refl refl
there_by Live (Some w) lines b away = refl

pub there_is : (x : SessionRecord) (lines : List stage.Line) → IsSession x → is_there (session_by lines (Some x)) ≡ true
there_is x lines is = there_by x.state x.holder lines x.counts is.away

at_by : (a : Address) (lines : List stage.Line) (o : Option SessionRecord) → ((x : SessionRecord) → o ≡ Some x → IsSession x)
    → is_at a (session_by lines o) ≡ passes (λ x. same_address x.address a) o
at_by a lines None each = refl
at_by a lines (Some x) each = ap (λ b. b && same_address x.address a) (there_is x lines (each x refl))

pub at_is : (k : Kept) (a : Address) (t : TableRecord) (answers : List (List Answer)) (book : Book) (rooms : Rooms) (kept : Archives) → IsTied t
    → Rises 0 t.sessions t.made → k.world ≡ world_of t answers book rooms kept → session_at k a ≡ number_at a t.sessions
at_is k a t answers book rooms kept tied rises world =
    ap (λ (x : World KeptTraffic). least x.made (λ s. is_at a (x.sessions s))) world
    ∙ sym (first_is_least (λ x. same_address x.address a) (λ s. is_at a (sessions_of t s)) t rises (λ s. at_by a t.lines (session_of s t) (tied.each s)))
