-- A stanza is acted on, and queues what it queues.
use Rattle.std.proofs.Common.{◌≡◌, inl, inr, ℕ, ◌+◌, List, [], ◌∷◌, true, false, Option, Some, None, refl, sym, ap, subst, ◌∙◌, arith}
use Rattle.std.specs.Prelude.{map, IsSomeAnd, OnOk, Result, Ok, Err}
use Rattle.std.proofs.lemmas.Bool.Decides.{eqb_tells}
use Rattle.sm_resume.specs.declared.decision.Cause.{Cause}
use Rattle.session_table.specs.declared.line.Line as stage
use Rattle.stanza_model.specs.declared.effect.Effect as stanza
use Rattle.stanza_model.specs.declared.stanza.Stanza.{Stanza}
use Rattle.session_table.specs.declared.life.Life.{Life}
use Rattle.session_table.specs.declared.life.Life.TheVariants.{Live, Over}
use Rattle.session_table.specs.Sessions.{SessionRecord}
use Rattle.session_table.specs.Tables.{TableRecord, session_of, with_session}
use Rattle.muc_service.specs.Casting.{cast}
use Rattle.house_model.specs.declared.event.Event.TheVariants as event
use Rattle.house_model.specs.declared.reply.Reply.TheVariants as reply
use Rattle.house_model.specs.Sessions.{Act, nobody}
use Rattle.house_model.specs.Lookups.{goes_on}
use Rattle.house_model.specs.Routing.{effects, effects_in}
use Rattle.house_model.specs.Steps.{body, effect_of}
use Rattle.house_model.specs.Traffic.{KeptTraffic}
use Rattle.house_model.specs.States.{World, Kept, usual}
use Rattle.house_model.specs.Effects.{On}
use Rattle.house_model.specs.Gate as model
use Rattle.house_world.specs.declared.world.World as code
use Rattle.house_world.specs.Views.{hold_by, session_by, sessions_of}
use Rattle.house_world.specs.Wholes.{IsHeldBy, IsTied}
use Rattle.house_world.specs.Worlds.{seen, Did, Ends}
use Rattle.house_world.proofs.DidLemmas.{did_then, put_same}
use Rattle.house_world.proofs.ReadLemmas.{sessions_put}
use Rattle.house_world.proofs.TiedLemmas.{changed_else, changed_here, tied_with, few_with}
use Rattle.house_world.proofs.BookLemmas.{book_same}

-- a session whose queue has other room is seen as before
module _ (a : code.World) (s room : ℕ) (x : SessionRecord) (tied : IsTied a.table) (at : session_of s a.table ≡ Some x) where
  abbrev pub roomy : SessionRecord
  roomy = record x { queue = record x.queue { room = room } }

  room_did : Did [] 0 a (record a { table = with_session s a.table roomy })
  room_did = record {
    world = λ i. record (seen a) {
      sessions = (sessions_put a.table (λ _. roomy) s x at
          ∙ put_same s (session_by a.table.lines (Some x)) (sessions_of a.table) (ap (session_by a.table.lines) (sym at))) i;
    };
    tied = tied_with s a.table x roomy tied at refl refl (let ready = tied.each s x at in record {
      given = ready.given;
      asked = ready.asked;
      base_in = ready.base_in;
      short = ready.short;
      away = ready.away;
      known = ready.known;
      shown = ready.shown;
      pushes = ready.pushes;
      address = ready.address;
    });
    known = λ many users. users;
    few = λ turns few. few_with s turns (turns + 0) a.table x roomy few at (omega arith)
        (let old = few.sent s x at in omega (arith, old)) (let old = few.acted s x at in omega (arith, old));
    lines = refl;
    answered = refl;
    kept = book_same;
  }

  pub roomy_did : (y : SessionRecord) → y ≡ roomy → Did [] 0 a (record a { table = with_session s a.table y })
  roomy_did y is = subst (λ (z : SessionRecord). Did [] 0 a (record a { table = with_session s a.table z })) (sym is) room_did

-- who holds a session is the same, whatever its room is
still_held : (s w n : ℕ) (t : TableRecord) (x y : SessionRecord) → session_of s t ≡ Some x → y.state ≡ x.state → y.holder ≡ x.holder
    → IsHeldBy w n t → IsHeldBy w n (with_session s t y)
still_held s w n t x y at state holder held =
    elim (eqb_tells s n) [
      | inl p ↦
          subst (λ (o : Option SessionRecord). IsSomeAnd o (λ z. (z.state ≡ Live) × (z.holder ≡ Some w)))
          (sym (changed_here s (λ _. y) t x at) ∙ ap (λ (k : ℕ). session_of k (with_session s t y)) p.1)
          (let old = subst (λ (o : Option SessionRecord). IsSomeAnd o (λ z. (z.state ≡ Live) × (z.holder ≡ Some w)))
          (ap (λ (k : ℕ). session_of k t) (sym p.1) ∙ at) held in (state ∙ old.0, holder ∙ old.1))
      | inr p ↦
          subst (λ (o : Option SessionRecord). IsSomeAnd o (λ z. (z.state ≡ Live) × (z.holder ≡ Some w)))
          (sym (changed_else s n (λ _. y) t (λ e. p.1 (sym e)))) held
    ]

pub held_still : (s w n : ℕ) (t : TableRecord) (x y : SessionRecord) (room : ℕ) → session_of s t ≡ Some x
    → y ≡ record x { queue = record x.queue { room = room } } → IsHeldBy w n t → IsHeldBy w n (with_session s t y)
held_still s w n t x y room at is held =
    still_held s w n t x y at (ap (λ (z : SessionRecord). z.state) is) (ap (λ (z : SessionRecord). z.holder) is) held

-- the session at an address, where it goes on
live_goes : (l : Life) (h : Option ℕ) (ls : List stage.Line) → l ≡ Live → goes_on (hold_by l h ls) ≡ true
live_goes Live None ls is = refl
live_goes Live (Some w) ls is = refl
live_goes (Over cause) h ls is = absurd (cc)

over_stops : (l : Life) (h : Option ℕ) (ls : List stage.Line) (cause : Cause) → l ≡ Over cause → goes_on (hold_by l h ls) ≡ false
over_stops Live h ls cause is = absurd (cc)
over_stops (Over c) h ls cause is = refl

pub goes_live : (a : code.World) (s : ℕ) (x : SessionRecord) → session_of s a.table ≡ Some x → x.state ≡ Live
    → goes_on ((seen a).sessions s).hold ≡ true
goes_live a s x at live =
    ap (λ (o : Option SessionRecord). goes_on (session_by a.table.lines o).hold) at ∙ live_goes x.state x.holder a.table.lines live

pub goes_over : (a : code.World) (s : ℕ) (x : SessionRecord) (cause : Cause) → session_of s a.table ≡ Some x → x.state ≡ Over cause
    → goes_on ((seen a).sessions s).hold ≡ false
goes_over a s x cause at over =
    ap (λ (o : Option SessionRecord). goes_on (session_by a.table.lines o).hold) at ∙ over_stops x.state x.holder a.table.lines cause over

-- a state that is seen so
abbrev pub some_kept : World KeptTraffic → ℕ → Kept
some_kept world moment = record {
  head = record { domain = nobody; users = []; workers = 0; limits = usual; turns = 0; moment = moment };
  world = world;
}

-- what the rules on stanzas read is the same
pub scene_is : (k : Kept) (domain : List ℕ) (users : List (List ℕ)) (world : World KeptTraffic) (moment s : ℕ) (x : Stanza) → k.world ≡ world
    → k.head.domain.domain ≡ domain → k.head.users ≡ users → k.head.moment ≡ moment
    → effects_in (record { domain = domain; users = users; world = world; moment = moment }) s x ≡ effects k s x
scene_is k domain users world moment s x same at names when =
    λ i. effects_in (record { domain = sym at i; users = sym names i; world = sym same i; moment = sym when i }) s x

-- the act as a whole
pub act_ends : (k : Kept) (p : model.Pass) (c s t w : ℕ) (x : Stanza) (a b d f : code.World) (es : List stanza.Effect) → p ≡ model.Holds c s
    → b ≡ a → Did [] 0 b d → Did (On s (Act x) ∷ map effect_of es) 1 d f → es ≡ cast k.world.rooms (effects k s x)
    → Ends (body k (event.Act w x t) p) 1 reply.Done a f
act_ends k p c s t w x a b d f es pass same ready did is =
    subst (λ (q : model.Pass). Ends (body k (event.Act w x t) q) 1 reply.Done a f) (sym pass)
    (record {
      answer = refl;
      did =
          subst (λ (os : List stanza.Effect). Did (On s (Act x) ∷ map effect_of os) 1 a f) is
          (subst (λ (z : code.World). Did (On s (Act x) ∷ map effect_of es) 1 z f) same
          (did_then [] (On s (Act x) ∷ map effect_of es) 0 1 b d f ready did));
    })

pub on_ok : {T E A B : Type 0} (r : Result T E) → (A → B) → OnOk r A → OnOk r B
on_ok (Ok x) f a = f a
on_ok (Err e) f a = tt
