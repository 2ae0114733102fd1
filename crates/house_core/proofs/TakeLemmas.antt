-- A session is asked for: the answer fits, and what is done is the definition's.
use Rattle.std.proofs.Common.{◌≡◌, ℕ, ◌<◌, ◌≤◌, ◌^◌, ◌∷◌, [], ◌∙◌, List, length, get_or, Some, refl, sym, ap, subst, arith}
use Rattle.std.proofs.lemmas.Fmt.{length-decimal-le}
use Rattle.std.proofs.lemmas.Grind.{common_steps}
use Rattle.jid_core.specs.Addresses.{Address}
use Rattle.sm_resume.specs.declared.decision.Cause.TheVariants as cause
use Rattle.sm_resume.specs.declared.decision.Decision.TheVariants.{Take, TooHigh}
use Rattle.sm_resume.specs.declared.id.ResumeId.{ResumeId}
use Rattle.house_model.specs.declared.answer.Answer.TheVariants.{NotFound, Resumed}
use Rattle.house_model.specs.declared.event.Event.TheVariants as event
use Rattle.house_model.specs.declared.reply.Reply.{Reply}
use Rattle.house_model.specs.declared.reply.Reply.TheVariants as reply
use Rattle.house_model.specs.Answers.{answer_text}
use Rattle.house_model.specs.Sessions.{Resume}
use Rattle.house_model.specs.Traffic.{KeptTraffic, kept_inward}
use Rattle.house_model.specs.States.{World, Kept, usual}
use Rattle.house_model.specs.Effects.{At, On, Say, Close}
use Rattle.house_model.specs.Gate as model
use Rattle.house_model.specs.Gate.{Verdict, does}
use Rattle.house_model.specs.Steps.{body, resumes_by}
use Rattle.house_world.specs.declared.world.World as code
use Rattle.house_core.specs.Resumes.{is_known_to, verdict_by}
use Rattle.house_world.specs.Worlds.{Did, Ends, seen}
use Rattle.house_core.proofs.AnswerLemmas.{spelling_length}
use Rattle.house_world.proofs.DidLemmas.{did_then}

pub resumed_fits : (h : ℕ) (id : ResumeId) → h < 2 ^ 32 → id.session < 2 ^ 64 → length id.digits ≡ 16 → length (answer_text (Resumed h id)) ≤ 524288
resumed_fits h id low small digits =
    let number = length-decimal-le 10 h (omega arith) (omega (arith, low)) (omega (arith, low)) in
    let session = length-decimal-le 20 id.session (omega arith) (omega (arith, small)) small in
    let all = spelling_length id digits in
    grind (arith, common_steps, number, session, all)

pub inward_fits : (h : ℕ) (k : KeptTraffic) (id : ResumeId) → h ≡ kept_inward k → id.session < 2 ^ 64 → length id.digits ≡ 16
    → length (answer_text (Resumed h id)) ≤ 524288
inward_fits h k id is small digits = resumed_fits h id (omega (arith, is)) small digits

pub take_ends : (v : Verdict) (a b d : code.World) (w c s h n count : ℕ) (id : ResumeId) (t : KeptTraffic)
    → v ≡ verdict_by (Take n) w c s h id t → count ≡ kept_inward t
    → Did (On s (Resume w c h) ∷ []) 0 a b → Did (At w (Say (Resumed count id)) ∷ []) 0 b d → Ends v 0 reply.Resumed a d
take_ends v a b d w c s h n count id t is same one two =
    subst (λ (u : Verdict). Ends u 0 reply.Resumed a d) (sym is) (record {
      answer = refl;
      did =
          subst (λ (m : ℕ). Did (On s (Resume w c h) ∷ At w (Say (Resumed m id)) ∷ []) 0 a d) same
          (did_then (On s (Resume w c h) ∷ []) (At w (Say (Resumed count id)) ∷ []) 0 0 a b d one two);
    })

pub high_ends : (v : Verdict) (a b : code.World) (w c s h g kept sent : ℕ) (id : ResumeId) (t : KeptTraffic)
    → v ≡ verdict_by (TooHigh g kept sent) w c s h id t
    → Did (At w (Close c (cause.TooHigh g kept sent)) ∷ []) 0 a b → Ends v 0 (reply.Over (cause.TooHigh g kept sent)) a b
high_ends v a b w c s h g kept sent id t is did =
    subst (λ (u : Verdict). Ends u 0 (reply.Over (cause.TooHigh g kept sent)) a b) (sym is) (record { answer = refl; did = did })

pub missed_ends : (v : Verdict) (a b : code.World) (w : ℕ) → v ≡ does reply.Done (At w (Say NotFound) ∷ [])
    → Did (At w (Say NotFound) ∷ []) 0 a b → Ends v 0 reply.Done a b
missed_ends v a b w is did = subst (λ (u : Verdict). Ends u 0 reply.Done a b) (sym is) (record { answer = refl; did = did })

-- what the session of an id is asked for, as the code does it
abbrev pub asked : (user domain : List ℕ) → (w c h : ℕ) → ResumeId → World KeptTraffic → Verdict
asked user domain w c h id world =
    resumes_by (is_known_to user domain id (world.sessions id.session)) (world.sessions id.session).hold w c id.session h id (world.sessions id.session).traffic

pub resume_ends : (k : Kept) (p : model.Pass) (w c u h t : ℕ) (id : ResumeId) (user domain : List ℕ) (r : Reply) (a b d : code.World)
    → k.world ≡ seen a → p ≡ model.Knows c u → b ≡ a → user ≡ get_or k.head.users u [] → domain ≡ k.head.domain.domain
    → Ends (asked user domain w c h id (seen b)) 0 r b d → Ends (body k (event.Resume w (Some id) h t) p) 0 r a d
resume_ends k p w c u h t id user domain r a b d world pass same user' domain' ends =
    let worlds : seen b ≡ k.world = ap seen same ∙ sym world in
    let is : asked user domain w c h id (seen b) ≡ body k (event.Resume w (Some id) h t) (model.Knows c u) =
    (λ i. asked (user' i) (domain' i) w c h id (worlds i)) in
    subst (λ (q : model.Pass). Ends (body k (event.Resume w (Some id) h t) q) 0 r a d) (sym pass)
    (subst (λ (v : Verdict). Ends v 0 r a d) is (subst (λ (z : code.World). Ends (asked user domain w c h id (seen b)) 0 r z d) same ends))

-- a kept house of this world
abbrev pub some_kept : Address → List (List ℕ) → ℕ → code.World → Kept
some_kept domain users moment a = record {
  head = record { domain = domain; users = users; workers = 0; limits = usual; turns = 0; moment = moment };
  world = seen a;
}
