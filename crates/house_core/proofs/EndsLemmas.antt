-- A verdict, as it is carried out.
use Rattle.std.proofs.Common.{◌≡◌, ℕ, Bool, true, false, List, Option, Some, refl, sym, subst}
use Rattle.session_table.specs.Sessions.{SessionRecord}
use Rattle.session_table.specs.Tables.{TableRecord, session_of}
use Rattle.sm_resume.specs.declared.id.ResumeId.{ResumeId}
use Rattle.house_model.specs.declared.event.Event.{Event}
use Rattle.house_model.specs.declared.event.Event.TheVariants as event
use Rattle.house_model.specs.declared.reply.Reply.{Reply}
use Rattle.house_model.specs.declared.reply.Reply.TheVariants as reply
use Rattle.house_model.specs.Traffic.{KeptTraffic}
use Rattle.house_model.specs.States.{World, Kept}
use Rattle.house_model.specs.Gate as model
use Rattle.house_model.specs.Steps.{asks, enables, id_if, body}
use Rattle.house_core.specs.declared.gate.Pass.TheVariants.{Stop}
use Rattle.house_world.specs.declared.world.World as code
use Rattle.house_core.specs.Gates.{Passes}
use Rattle.house_world.specs.Wholes.{IsSession, IsTied}
use Rattle.house_world.specs.Worlds.{seen, Did, Ends}

-- what the gate answers itself
pub stop_ends : (k : Kept) (e : Event) (p : model.Pass) (r : Reply) (a b : code.World) → Passes (Stop r) p a b → Ends (body k e p) 0 r a b
stop_ends k e p r a b passes =
    subst (λ (q : model.Pass). Ends (body k e q) 0 r a b) (sym passes.1.0)
    (record { answer = passes.1.1.0; did = passes.1.1.1.1 })

asks_done : (b : Bool) (w s : ℕ) (t : KeptTraffic) → reply.Done ≡ (asks b w s t).reply
asks_done true w s t = refl
asks_done false w s t = refl

pub ask_ends : (k : Kept) (p : model.Pass) (w c s : ℕ) (a b d : code.World) → k.world ≡ seen a → p ≡ model.Holds c s → b ≡ a
    → Did (asks ((seen b).sessions s).counts w s ((seen b).sessions s).traffic).effects 0 b d
    → Ends (body k (event.Ask w) p) 0 reply.Done a d
ask_ends k p w c s a b d world pass same did =
    subst (λ (q : model.Pass). Ends (body k (event.Ask w) q) 0 reply.Done a d) (sym pass)
    (record {
      answer = asks_done (k.world.sessions s).counts w s (k.world.sessions s).traffic;
      did =
          subst (λ (x : World KeptTraffic). Did (asks (x.sessions s).counts w s (x.sessions s).traffic).effects 0 a d) (sym world)
          (subst (λ (z : code.World). Did (asks ((seen z).sessions s).counts w s ((seen z).sessions s).traffic).effects 0 z d) same did);
    })

-- what is known of a session by its number
pub ready_at : (w s : ℕ) (t : TableRecord) (x : SessionRecord) → IsTied t → session_of s t ≡ Some x → IsSession x
ready_at w s t x tied at = tied.each s x at

enables_done : (b : Bool) (w s : ℕ) (id : Option ResumeId) → reply.Done ≡ (enables b w s id).reply
enables_done true w s id = refl
enables_done false w s id = refl

pub enable_ends : (k : Kept) (p : model.Pass) (w c s : ℕ) (wants : Bool) (dice : List ℕ) (a b d : code.World) → k.world ≡ seen a → p ≡ model.Holds c s → b ≡ a
    → Did (enables ((seen b).sessions s).counts w s (id_if wants s dice)).effects 0 b d
    → Ends (body k (event.Enable w wants dice) p) 0 reply.Done a d
enable_ends k p w c s wants dice a b d world pass same did =
    subst (λ (q : model.Pass). Ends (body k (event.Enable w wants dice) q) 0 reply.Done a d) (sym pass)
    (record {
      answer = enables_done (k.world.sessions s).counts w s (id_if wants s dice);
      did =
          subst (λ (x : World KeptTraffic). Did (enables (x.sessions s).counts w s (id_if wants s dice)).effects 0 a d) (sym world)
          (subst (λ (z : code.World). Did (enables ((seen z).sessions s).counts w s (id_if wants s dice)).effects 0 z d) same did);
    })

-- a call that is its event's verdict, carried out
pub ends_by : (k : Kept) (e : Event) (p q : model.Pass) (m : ℕ) (r : Reply) (a b d : code.World) → p ≡ q → b ≡ a → Ends (body k e q) m r b d
    → Ends (body k e p) m r a d
ends_by k e p q m r a b d pass same ends =
    subst (λ (o : model.Pass). Ends (body k e o) m r a d) (sym pass) (subst (λ (z : code.World). Ends (body k e q) m r z d) same ends)
