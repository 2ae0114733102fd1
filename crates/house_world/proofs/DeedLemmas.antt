-- What happens to a session that is held, as its traffic is changed.
use Rattle.std.proofs.Common.{◌≡◌, ℕ, zero, suc, ◌+◌, List, [], ◌∷◌, Bool, true, false, drop, Option, Some, refl, sym, ap, subst, ◌∙◌, arith}
use Rattle.std.specs.Prelude.{IsSomeAnd}
use Rattle.std.specs.List.{AllByRecursion}
use Rattle.stanza_model.specs.declared.stanza.Stanza.{Stanza}
use Rattle.sm_resume.specs.declared.id.ResumeId.{ResumeId}
use Rattle.sm_queue.specs.Queues.{counted_anew}
use Rattle.session_table.specs.declared.life.Life.TheVariants.{Live}
use Rattle.session_table.specs.Sessions.{SessionRecord}
use Rattle.session_table.specs.Tables.{TableRecord, conn_of, line_of, session_of, with_session}
use Rattle.house_model.specs.Sessions.{Held, Act, Enable, Request, Rest, session, step_if}
use Rattle.house_model.specs.Traffic.{KeptTraffic, brief}
use Rattle.house_model.specs.Effects.{On}
use Rattle.house_world.specs.declared.world.World as code
use Rattle.house_world.specs.Views.{traffic_of, rest_of}
use Rattle.house_world.specs.Wholes.{IsSession, IsTied}
use Rattle.house_world.specs.Worlds.{Did, IsHeld}
use Rattle.house_world.proofs.WorldLemmas.{held_did}

-- the line of a session that is held
pub held_at : (s : ℕ) (t : TableRecord) (x : SessionRecord) → IsHeld s t → session_of s t ≡ Some x
    → (w : ℕ) × (x.state ≡ Live) × (x.holder ≡ Some w)
held_at s t x held at =
    let old : IsSomeAnd (session_of s t) (λ z. (z.state ≡ Live) × (z.holder ≡ Some held.0)) = held.1 in
    let is : IsSomeAnd (Some x) (λ z. (z.state ≡ Live) × (z.holder ≡ Some held.0)) =
    subst (λ (o : Option SessionRecord). IsSomeAnd o (λ z. (z.state ≡ Live) × (z.holder ≡ Some held.0))) at old in
    (held.0, is.0, is.1)

pub all_drop : {A : Type 0} (P : A → Type 0) (n : ℕ) (xs : List A) → AllByRecursion P xs → AllByRecursion P (drop n xs)
all_drop P zero xs all = all
all_drop P (suc n) [] all = all
all_drop P (suc n) (x ∷ xs) all = all_drop P n xs all.1

act_is : (b : Bool) (v d : ℕ) (k : KeptTraffic) (r : Rest) (stanza : Stanza)
    → session b (Held v d) (brief.act k stanza) r ≡ step_if brief b (Held v d) k r (Act stanza)
act_is true v d k r stanza = refl
act_is false v d k r stanza = refl

module _ (a : code.World) (s : ℕ) (x : SessionRecord) (tied : IsTied a.table) (held : IsHeld s a.table) (at : session_of s a.table ≡ Some x) where
  abbrev ready : IsSession x
  ready = tied.each s x at

  abbrev by : (w : ℕ) × (x.state ≡ Live) × (x.holder ≡ Some w)
  by = held_at s a.table x held at

  abbrev conn : ℕ
  conn = conn_of (line_of by.0 a.table)

  pub act_did : (y : SessionRecord) → y ≡ record x { acted = x.acted + 1 } → (stanza : Stanza)
      → Did (On s (Act stanza) ∷ []) 1 a (record a { table = with_session s a.table y })
  act_did y is stanza =
      subst (λ (z : SessionRecord). Did (On s (Act stanza) ∷ []) 1 a (record a { table = with_session s a.table z })) (sym is)
      (held_did a s by.0 x (record x { acted = x.acted + 1 }) (Act stanza) at by.1 by.2 refl refl
      (act_is x.counts by.0 conn (traffic_of x) (rest_of x) stanza) 1 tied
      (record {
        given = ready.given;
        asked = ready.asked;
        base_in = omega (arith, ready.base_in);
        short = ready.short;
        away = ready.away;
        known = ready.known;
        shown = ready.shown;
        pushes = ready.pushes;
        address = ready.address;
      })
      (λ turns few. (let sent = few.sent s x at in let acted = few.acted s x at in (omega (arith, sent), omega (arith, acted)))))

  pub request_did : (y : SessionRecord) → x.counts ≡ true → y ≡ record x { asked_at = x.given_up + x.queue.given }
      → Did (On s Request ∷ []) 0 a (record a { table = with_session s a.table y })
  request_did y counts is =
      subst (λ (z : SessionRecord). Did (On s Request ∷ []) 0 a (record a { table = with_session s a.table z })) (sym is)
      (held_did a s by.0 x (record x { asked_at = x.given_up + x.queue.given }) Request at by.1 by.2 refl refl
      (ap (λ (b : Bool). session b (Held by.0 conn) (brief.ask (traffic_of x)) (rest_of x)) counts
      ∙ sym (ap (λ (b : Bool). step_if brief b (Held by.0 conn) (traffic_of x) (rest_of x) Request) counts)) 0 tied
      (record {
        given = ready.given;
        asked = omega arith;
        base_in = ready.base_in;
        short = ready.short;
        away = ready.away;
        known = ready.known;
        shown = ready.shown;
        pushes = ready.pushes;
        address = ready.address;
      })
      (λ turns few. (let sent = few.sent s x at in let acted = few.acted s x at in (omega (arith, sent), omega (arith, acted)))))

  abbrev pub anew : Option ResumeId → SessionRecord
  anew id = record x {
    given_up = x.given_up + x.queue.given;
    queue = counted_anew x.queue;
    asked_at = x.given_up + x.queue.given;
    base_in = x.acted;
    counts = true;
    resume_id = id;
  }

  pub enable_did : (y : SessionRecord) (id : Option ResumeId) → x.counts ≡ false → y ≡ anew id
      → Did (On s (Enable id) ∷ []) 0 a (record a { table = with_session s a.table y })
  enable_did y id counts is =
      subst (λ (z : SessionRecord). Did (On s (Enable id) ∷ []) 0 a (record a { table = with_session s a.table z })) (sym is)
      (held_did a s by.0 x (anew id) (Enable id) at by.1 by.2 refl refl
      (sym (ap (λ (b : Bool). step_if brief b (Held by.0 conn) (traffic_of x) (rest_of x) (Enable id)) counts)) 0 tied
      (record {
        given = omega arith;
        asked = omega arith;
        base_in = omega arith;
        short = all_drop _ x.queue.given x.queue.waiting ready.short;
        away = λ live none. refl;
        known = λ some. refl;
        shown = ready.shown;
        pushes = ready.pushes;
        address = ready.address;
      })
      (λ turns few. (let sent = few.sent s x at in let acted = few.acted s x at in (omega (arith, sent), omega (arith, acted)))))
