-- What is decided on a resumption is what the definition answers.
use Rattle.std.proofs.Common.{◌≡◌, ℕ, ◌+◌, ◌-◌, ◌^◌, ◌<◌, ◌≤◌, Bool, true, false, not, ◌&&◌, List, [], ◌∷◌, get_or}
use Rattle.std.proofs.Common.{Option, Some, None, refl, sym, ap, subst, ◌∙◌, arith, if◌then◌else◌}
use Rattle.std.specs.Option.{option_map}
use Rattle.std.proofs.lemmas.Option.{same_Some}
use Rattle.std.specs.Prelude.{IsSome, IsSomeAnd}
use Rattle.std.specs.Str.{bytes_eq}
use Rattle.jid_core.specs.Addresses.{same_bare}
use Rattle.sm_counters.specs.Numbers.{count_of, distance, number}
use Rattle.sm_counters.proofs.CountLaws.{number-some}
use Rattle.sm_queue.specs.Queues.{acknowledged, sent_count}
use Rattle.sm_resume.specs.Resumption.{decision, resumed_at}
use Rattle.sm_resume.specs.declared.decision.Cause.{Cause}
use Rattle.sm_resume.specs.declared.decision.Cause.TheVariants as cause
use Rattle.sm_resume.specs.declared.decision.Decision.{Decision}
use Rattle.sm_resume.specs.declared.decision.Decision.TheVariants.{Take, Unknown, NotYours, TooHigh}
use Rattle.sm_resume.specs.declared.decision.Decision.TheVariants as decided
use Rattle.sm_resume.specs.declared.id.ResumeId.{ResumeId}
use Rattle.session_table.specs.declared.life.Life.{Life}
use Rattle.session_table.specs.declared.life.Life.TheVariants.{Live, Over}
use Rattle.session_table.specs.declared.line.Line as stage
use Rattle.session_table.specs.declared.line.Line.TheVariants.{Empty}
use Rattle.session_table.specs.Sessions.{SessionRecord, is_over}
use Rattle.session_table.specs.Tables.{IsLive, conn_of, session_of}
use Rattle.house_model.specs.declared.answer.Answer.TheVariants as answer
use Rattle.house_model.specs.declared.reply.Reply.TheVariants as reply
use Rattle.house_model.specs.Sessions.{Hold, Held, Away, Ended, Session}
use Rattle.house_model.specs.Traffic.{KeptTraffic, kept_handled, kept_resume}
use Rattle.house_model.specs.Effects.{At, Close, Say}
use Rattle.house_model.specs.Gate.{Verdict, does}
use Rattle.house_model.specs.Steps.{has_id, resumes_by, takes}
use Rattle.house_world.specs.declared.world.World as code
use Rattle.house_world.specs.Views.{hold_by, session_by, traffic_of}
use Rattle.house_core.specs.Resumes.{IsNarrow, facts_by, facts_with, is_known_to, users_address, verdict_by}
use Rattle.house_world.specs.Wholes.{IsTied}
use Rattle.house_world.specs.Worlds.{Counts, Handles, seen}

abbrev decide_by : (digits yours ended : Bool) → Decision → Decision
decide_by digits yours ended d = if not digits then Unknown else if not yours then NotYours else if ended then decided.Ended else d

abbrev missed : ℕ → Verdict
missed w = does reply.Done (At w (Say answer.NotFound) ∷ [])

module _ (w c s h : ℕ) (id : ResumeId) (t : KeptTraffic) (small : t.count < 2 ^ 32) where
  abbrev found : Decision
  found = resumed_at t.count (t.count + t.given) h (number t.count (t.count + t.given) h)

  taken : (o : Option ℕ) → takes (kept_resume t o) w c s h id t ≡ verdict_by (resumed_at t.count (t.count + t.given) h o) w c s h id t
  taken None =
      let is : t.count ≡ count_of t.count = omega (arith, small) in
      ap (λ (k : ℕ). does (reply.Over (cause.TooHigh h k (count_of (t.count + t.given))))
      (At w (Close c (cause.TooHigh h k (count_of (t.count + t.given)))) ∷ [])) is
  taken (Some n) = refl

  held_verdict : (v d : ℕ) (digits yours : Bool)
      → resumes_by (true && (digits && yours)) (Held v d) w c s h id t ≡ verdict_by (decide_by digits yours false found) w c s h id t
  held_verdict v d false yours = refl
  held_verdict v d true false = refl
  held_verdict v d true true = taken (kept_handled t h)

  away_verdict : (digits yours : Bool)
      → resumes_by (true && (digits && yours)) Away w c s h id t ≡ verdict_by (decide_by digits yours false found) w c s h id t
  away_verdict false yours = refl
  away_verdict true false = refl
  away_verdict true true = taken (kept_handled t h)

  over_verdict : (why : Cause) (digits yours : Bool)
      → resumes_by (true && (digits && yours)) (Ended why) w c s h id t ≡ verdict_by (decide_by digits yours true found) w c s h id t
  over_verdict why false yours = refl
  over_verdict why true false = refl
  over_verdict why true true = refl

  life_verdict : (l : Life) (o : Option ℕ) (ls : List stage.Line) (digits yours : Bool)
      → resumes_by (true && (digits && yours)) (hold_by l o ls) w c s h id t ≡ verdict_by (decide_by digits yours (is_over l) found) w c s h id t
  life_verdict (Over why) o ls digits yours = over_verdict why digits yours
  life_verdict Live None ls digits yours = away_verdict digits yours
  life_verdict Live (Some v) ls digits yours = held_verdict v (conn_of (get_or ls v Empty)) digits yours

unknown_by : (counts yours : Bool) (m : Hold) (w c s h : ℕ) (id : ResumeId) (t : KeptTraffic)
    → resumes_by (counts && (false && yours)) m w c s h id t ≡ missed w
unknown_by true yours m w c s h id t = refl
unknown_by false yours m w c s h id t = refl

same_window : (x : SessionRecord) → IsNarrow x → x.queue.kept + distance x.queue.kept (sent_count x.queue) ≡ x.queue.kept + x.queue.given
same_window x narrow = omega (arith, narrow.kept, narrow.given)

abbrev Answered : (user domain : List ℕ) → (w c h : ℕ) → ResumeId → Session KeptTraffic → Decision → Type 0
Answered user domain w c h id x d =
    resumes_by (is_known_to user domain id x) x.hold w c id.session h id x.traffic ≡ verdict_by d w c id.session h id x.traffic

answered_with : (user domain : List ℕ) (w c h : ℕ) (id : ResumeId) (ls : List stage.Line) (x : SessionRecord) (o : Option ResumeId)
    → (IsSome o → IsNarrow x) → (IsSome o → x.counts ≡ true)
    → resumes_by (x.counts && (has_id o id && same_bare x.address (users_address user domain))) (hold_by x.state x.holder ls) w c id.session h id (traffic_of x)
    ≡ verdict_by (decision id (facts_with user domain x o) h) w c id.session h id (traffic_of x)
answered_with user domain w c h id ls x None narrow counts =
    unknown_by x.counts (same_bare x.address (users_address user domain)) (hold_by x.state x.holder ls) w c id.session h id (traffic_of x)
answered_with user domain w c h id ls x (Some other) narrow counts =
    let digits = bytes_eq other.digits id.digits in
    let yours = same_bare x.address (users_address user domain) in
    ap (λ (b : Bool). resumes_by (b && (digits && yours)) (hold_by x.state x.holder ls) w c id.session h id (traffic_of x)) (counts refl)
    ∙ (life_verdict w c id.session h id (traffic_of x) (narrow refl).kept x.state x.holder ls digits yours
    ∙ ap (λ (q : ℕ). verdict_by (decide_by digits yours (is_over x.state) (resumed_at x.queue.kept q h (number x.queue.kept q h))) w c id.session h id
    (traffic_of x))
    (sym (same_window x (narrow refl))))

answered_by : (user domain : List ℕ) (w c h : ℕ) (id : ResumeId) (ls : List stage.Line) (o : Option SessionRecord)
    → ((x : SessionRecord) → o ≡ Some x → (IsSome x.resume_id → IsNarrow x) × (IsSome x.resume_id → x.counts ≡ true))
    → Answered user domain w c h id (session_by ls o) (decision id (facts_by user domain o) h)
answered_by user domain w c h id ls None facts = refl
answered_by user domain w c h id ls (Some x) facts =
    let known = facts x refl in
    answered_with user domain w c h id ls x x.resume_id known.0 known.1

pub answered_is : (a : code.World) (user domain : List ℕ) (w c h : ℕ) (id : ResumeId) (d : Decision) → IsTied a.table
    → ((x : SessionRecord) → session_of id.session a.table ≡ Some x → IsSome x.resume_id → IsNarrow x)
    → d ≡ decision id (facts_by user domain (session_of id.session a.table)) h
    → Answered user domain w c h id ((seen a).sessions id.session) d
answered_is a user domain w c h id d tied narrow is =
    answered_by user domain w c h id a.table.lines (session_of id.session a.table) (λ x at. (narrow x at, (tied.each id.session x at).known))
    ∙ ap (λ (e : Decision). verdict_by e w c id.session h id ((seen a).sessions id.session).traffic) (sym is)

-- what is known of a session that goes on
abbrev took : Decision → ℕ
took (Take n) = n
took Unknown = 0
took NotYours = 0
took decided.Ended = 0
took (TooHigh h kept sent) = 0

takes_at : (a q h n : ℕ) (o : Option ℕ) → resumed_at a q h o ≡ Take n → option_map (λ m. m - a) o ≡ Some n
takes_at a q h n None is = absurd (cc)
takes_at a q h n (Some m) is = ap (λ d. Some (took d)) is

takes_by : (digits yours ended : Bool) (a q h n : ℕ) (o : Option ℕ) → decide_by digits yours ended (resumed_at a q h o) ≡ Take n
    → (ended ≡ false) × (option_map (λ m. m - a) o ≡ Some n)
takes_by false yours ended a q h n o is = absurd (cc)
takes_by true false ended a q h n o is = absurd (cc)
takes_by true true true a q h n o is = absurd (cc)
takes_by true true false a q h n o is = (refl, takes_at a q h n o is)

live_of : (l : Life) → is_over l ≡ false → l ≡ Live
live_of Live is = refl
live_of (Over why) is = absurd (cc)

within_by : (a g h n : ℕ) (o : Option ℕ) → ((m : ℕ) → o ≡ Some m → m ≤ a + g) → option_map (λ m. m - a) o ≡ Some n → n ≤ g
within_by a g h n None low is = absurd (let z : ◌≡◌ {A = Option ℕ} None (Some n) = is in cc)
within_by a g h n (Some m) low is = (let m' = low m refl in let same = same_Some (m - a) n is in omega (arith, m', same))

pub record CanGoOn (x : SessionRecord) (h n : ℕ) : Type 0 where
  pub live : x.state ≡ Live
  pub counts : x.counts ≡ true
  pub handled : acknowledged h x.queue ≡ Some n
  pub low : n ≤ x.queue.given

goes_with : (user domain : List ℕ) (h n : ℕ) (id : ResumeId) (x : SessionRecord) (o : Option ResumeId) → (IsSome o → IsNarrow x) → (IsSome o → x.counts ≡ true)
    → decision id (facts_with user domain x o) h ≡ Take n → CanGoOn x h n
goes_with user domain h n id x None narrow counts is = absurd (let z : Unknown ≡ Take n = is in cc)
goes_with user domain h n id x (Some other) narrow counts is =
    let k = x.queue.kept in
    let parts = takes_by (bytes_eq other.digits id.digits) (same_bare x.address (users_address user domain)) (is_over x.state) k (k + x.queue.given) h n
    (number k (k + x.queue.given) h)
    (sym (ap (λ (q : ℕ). decide_by (bytes_eq other.digits id.digits) (same_bare x.address (users_address user domain)) (is_over x.state)
    (resumed_at k q h (number k q h))) (same_window x (narrow refl))) ∙ is) in
    record {
      live = live_of x.state parts.0;
      counts = counts refl;
      handled = parts.1;
      low = within_by k x.queue.given h n (number k (k + x.queue.given) h) (λ m at. (number-some k (k + x.queue.given) h m at).high) parts.1;
    }

goes_by : (user domain : List ℕ) (h n : ℕ) (id : ResumeId) (o : Option SessionRecord)
    → ((x : SessionRecord) → o ≡ Some x → (IsSome x.resume_id → IsNarrow x) × (IsSome x.resume_id → x.counts ≡ true))
    → decision id (facts_by user domain o) h ≡ Take n → (x : SessionRecord) × (o ≡ Some x) × CanGoOn x h n
goes_by user domain h n id None facts is = absurd (let z : Unknown ≡ Take n = is in cc)
goes_by user domain h n id (Some x) facts is =
    let known = facts x refl in
    (x, refl, goes_with user domain h n id x x.resume_id known.0 known.1 is)

module _ (a : code.World) (user domain : List ℕ) (h n : ℕ) (id : ResumeId) (tied : IsTied a.table)
    (narrow : (x : SessionRecord) → session_of id.session a.table ≡ Some x → IsSome x.resume_id → IsNarrow x)
    (is : decision id (facts_by user domain (session_of id.session a.table)) h ≡ Take n) where
  goes : (x : SessionRecord) × (session_of id.session a.table ≡ Some x) × CanGoOn x h n
  goes = goes_by user domain h n id (session_of id.session a.table) (λ x at. (narrow x at, (tied.each id.session x at).known)) is

  mine : (y : SessionRecord) → session_of id.session a.table ≡ Some y → CanGoOn y h n
  mine y at = subst (λ (x : SessionRecord). CanGoOn x h n) (same_Some goes.0 y (sym goes.1 ∙ at)) goes.2

  pub goes_live : IsLive id.session a.table
  goes_live = subst (λ (o : Option SessionRecord). IsSomeAnd o (λ x. x.state ≡ Live)) (sym goes.1) goes.2.live

  pub goes_counts : Counts true id.session a.table
  goes_counts y at = (mine y at).counts

  pub goes_handles : Handles h n id.session a.table
  goes_handles y at = ((mine y at).handled, (mine y at).low)
