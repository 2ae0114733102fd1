-- What the calls on a flow make of its end, and after which of them nothing is left to be done.
use Rattle.std.proofs.Common.{◌≡◌, ◌⊎◌, ℕ, List, [], ◌∷◌, Bool, true, false, Option, Some, None, refl, sym, subst, ◌∙◌, ap, inl, inr, if◌then◌else◌}
use Rattle.std.specs.Prelude.{◌↔◌}
use Rattle.house_model.specs.declared.reply.Reply.{Reply}
use Rattle.house_model.specs.declared.reply.Reply.TheVariants as reply
use Rattle.conn_asks.specs.declared.ended.Ended.{Ended}
use Rattle.conn_asks.specs.declared.ended.Ended.TheVariants as ended
use Rattle.conn_asks.specs.declared.stream_error.StreamError.{StreamError}
use Rattle.conn_asks.specs.StreamErrors.{error_of}
use Rattle.conn_flow.specs.declared.phase.Phase.{Phase}
use Rattle.conn_flow.specs.declared.phase.Phase.TheVariants.{Resting, Drawing, Entered}
use Rattle.conn_flow.specs.declared.phase.Phase.TheVariants.{LoggedIn, PullingOnce, Pulling, Sweeping, Parting, Left}
use Rattle.conn_flow.specs.declared.talk.Talk.{Talk}
use Rattle.conn_flow.specs.Duties.{is_idle}
use Rattle.conn_flow.specs.Flows.{IsGoing, IsThere, IsTold, State, error_said, last_text, short_at}
use Rattle.conn_flow.specs.Reasons.{EndsBy, IsByItem, end_at, end_by}
use Rattle.conn_flow.specs.Calls.{Call, Does, HasText, IsFresh, IsMade, Led, Makes, Rests, Stays}
use Rattle.conn_flow.specs.Calls.{Hear, HearShort, Late, Quiet, Hung, Next, NextShort, Told, ToldShort, Gave}
use Rattle.conn_flow.proofs.Ends.{ends_after}
use Rattle.conn_flow.proofs.ReplyEnds.{tells}
use Rattle.conn_flow.proofs.Reasoning.{rests_after}

abbrev end_of : State → Option Ended
end_of s = end_at s.talk.phase

none_some : {x : Ended} → None ≡ Some x → ⊥
none_some is = cc

same_end : {x y : Ended} → Some x ≡ Some y → x ≡ y
same_end is = cc

-- One call: the end that stands was made by it, or stood before.

abbrev MadeBy : Call → Option Ended → Ended → Type 0
MadeBy call was x = Makes call x ⊎ (was ≡ Some x)

quiet_made : (t : ℕ) (idle : Bool) (was : Option Ended) (x : Ended) → end_at (if idle then Parting (ended.Idle t) else Pulling) ≡ Some x
    → MadeBy (Quiet t) was x
quiet_made t true was x is = inl (subst (λ (y : Ended). Makes (Quiet t) y) (same_end is) refl)
quiet_made t false was x is = absurd (none_some is)

next_made : (want : _) (before after : Option Ended) (x : Ended) → EndsBy before after → after ≡ Some x → MadeBy (Next want) before x
next_made want (Some y) after x h is = inr (sym h ∙ is)
next_made want None (Some y) x h is = inl (subst (λ (z : Ended). IsByItem z) (same_end is) h)
next_made want None None x h is = absurd (none_some is)

told_made : (p : Phase) (r : Reply) (was : Option Ended) (x : Ended) → end_by p r ≡ Some x → MadeBy (Told r) was x
told_made Sweeping r was x is = absurd (none_some is)
told_made p (reply.Over cause) was x is = inl (subst (λ (y : Ended). Makes (Told (reply.Over cause)) y) (same_end is) refl)
told_made p r was x is = absurd (none_some is)

short_made : (s : Talk) (p : Phase) (x : Ended) → s.phase ≡ p → IsTold p → end_at (short_at s p).phase ≡ Some x → MadeBy ToldShort (end_at p) x
short_made s (Entered pulls) x at told is = inl (subst (λ (y : Ended). Makes ToldShort y) (same_end is) tt)
short_made s LoggedIn x at told is = inl (subst (λ (y : Ended). Makes ToldShort y) (same_end is) tt)
short_made s Sweeping x at told is = absurd (none_some is)
short_made s PullingOnce x at told is = inr (ap (λ (q : Phase). end_at q) (sym at) ∙ is)
short_made s Pulling x at told is = inr (ap (λ (q : Phase). end_at q) (sym at) ∙ is)
short_made s p x at told is = absurd told

made_by : (s s' : State) (call : Call) (x : Ended) → Does s call s' → end_of s' ≡ Some x → MadeBy call (end_of s) x
made_by s s' (Hear t piece) x (at, is) end = absurd (none_some (ap end_of (sym is) ∙ end))
made_by s s' (HearShort t) x (at, is) end =
    inl (subst (λ (y : Ended). Makes (HearShort t) y) (same_end (ap (λ (y : Talk). end_at y.phase) (sym is) ∙ end)) tt)
made_by s s' (Late t) x (at, is) end = inl (subst (λ (y : Ended). Makes (Late t) y) (same_end (ap end_of (sym is) ∙ end)) refl)
made_by s s' (Quiet t) x (at, is) end =
    quiet_made t (is_idle s.talk.stage s.talk.opened s.talk.heard t) (end_of s) x (ap end_of (sym is) ∙ end)
made_by s s' (Hung t) x (at, is) end = inl (subst (λ (y : Ended). Makes (Hung t) y) (same_end (ap end_of (sym is) ∙ end)) tt)
made_by s s' (Next want) x (accounts, wants, after) end = next_made want (end_of s) (end_of s') x (ends_after accounts s want s' wants) end
made_by s s' NextShort x (going, is) end =
    inl (subst (λ (y : Ended). Makes NextShort y) (same_end (ap (λ (q : Phase). end_at q) (sym is) ∙ end)) tt)
made_by s s' (Told r) x (told, is) end =
    told_made s.talk.phase r (end_of s) x (sym (tells s.talk s'.talk r told (ap (λ (y : State). y.talk) is)).0 ∙ end)
made_by s s' ToldShort x (told, is) end = short_made s.talk s.talk.phase x refl told (ap end_of (sym is) ∙ end)
made_by s s' (Gave dice) x (at, is) end = absurd (none_some (ap end_of (sym is) ∙ end))

pub was_made : (a : State) (calls : List Call) (s : State) (x : Ended) → IsFresh a → Led a calls s → end_of s ≡ Some x → IsMade calls x
was_made a [] s x (line, domain, dice, t, is) same end = absurd (none_some (ap end_of (sym is) ∙ ap end_of (sym same) ∙ end))
was_made a (call ∷ before) s x fresh (was, led, does) end =
    elim (made_by was s call x does end) [ inl made ↦ inl made | inr stood ↦ inr (was_made a before was x fresh led stood) ]

-- An end that stands stays.

error_there : (s : Talk) (e : Option StreamError) → IsThere (error_said s e) → IsThere e
error_there s (Some e) there = tt
error_there s None there = there

text_of : (s : Talk) (x : Ended) → IsThere (last_text s x) → HasText x
text_of s ended.Closed there = tt
text_of s x there = error_there s (error_of x) there

going_text : (s : Talk) (p : Phase) (x : Ended) → IsGoing s p → end_at p ≡ Some x → HasText x
going_text s (Parting y) x going end = subst (λ (z : Ended). HasText z) (same_end end) (text_of s y going)
going_text s (Left y) x going end = absurd going
going_text s p x going end = absurd (none_some end)

-- a flow with an end takes no other call
abbrev HasNone : Phase → Type 0
HasNone p = end_at p ≡ None

told_none : (p : Phase) → IsTold p → HasNone p
told_none (Entered pulls) told = refl
told_none LoggedIn told = refl
told_none PullingOnce told = refl
told_none Pulling told = refl
told_none Sweeping told = refl
told_none p told = absurd told

no_more : {A : Type 0} (s : State) (x : Ended) → HasNone s.talk.phase → end_of s ≡ Some x → A
no_more s x none end = absurd (none_some (sym none ∙ end))

at_none : (s : State) (p : Phase) → HasNone p → s.talk.phase ≡ p → HasNone s.talk.phase
at_none s p none at = ap (λ (q : Phase). end_at q) at ∙ none

stays_by : (s s' : State) (call : Call) (x : Ended) → Does s call s' → end_of s ≡ Some x → Stays x s'
stays_by s s' (Next want) x (accounts, wants, after) end =
    inl (subst (λ (e : Option Ended). EndsBy e (end_of s')) end (ends_after accounts s want s' wants))
stays_by s s' NextShort x (going, is) end = inr (going_text s.talk s.talk.phase x going end, ap (λ (q : Phase). end_at q) is)
stays_by s s' (Hear t piece) x (at, is) end = no_more s x (at_none s Resting refl at) end
stays_by s s' (HearShort t) x (at, is) end = no_more s x (at_none s Resting refl at) end
stays_by s s' (Late t) x (at, is) end = no_more s x (at_none s Resting refl at) end
stays_by s s' (Quiet t) x (at, is) end = no_more s x (at_none s Resting refl at) end
stays_by s s' (Hung t) x (at, is) end = no_more s x (at_none s Resting refl at) end
stays_by s s' (Told r) x (told, is) end = no_more s x (told_none s.talk.phase told) end
stays_by s s' ToldShort x (told, is) end = no_more s x (told_none s.talk.phase told) end
stays_by s s' (Gave dice) x (at, is) end = no_more s x (at_none s Drawing refl at) end

stays_on : (s s' : State) (call : Call) (x : Ended) → Does s call s' → Stays x s → Stays x s'
stays_on s s' call x does (inl end) = stays_by s s' call x does end
stays_on s s' call x does (inr (text, short)) =
    elim (stays_by s s' call ended.NoMemory does short) [ inl end ↦ inr (text, end) | inr (none, end) ↦ inr (text, end) ]

pub stays_through : (a : State) (calls : List Call) (s : State) (x : Ended) → end_of a ≡ Some x → Led a calls s → Stays x s
stays_through a [] s x end same = inl (ap end_of same ∙ end)
stays_through a (call ∷ before) s x end (was, led, does) = stays_on was s call x does (stays_through a before was x end led)

-- where the link was at its end, that is the end

only_hung : (s : State) → Stays ended.Hung s → end_of s ≡ Some ended.Hung
only_hung s (inl end) = end
only_hung s (inr (text, end)) = absurd text

hung_makes : (s s' : State) (call : Call) → Does s call s' → Makes call ended.Hung → end_of s' ≡ Some ended.Hung
hung_makes s s' (Hung t) (at, is) made = ap end_of is
hung_makes s s' (Told (reply.Over cause)) does made = absurd made
hung_makes s s' call does made = absurd made

pub hung_ends : (a : State) (calls : List Call) (s : State) → Led a calls s → IsMade calls ended.Hung → end_of s ≡ Some ended.Hung
hung_ends a [] s same made = absurd made
hung_ends a (call ∷ before) s (was, led, does) (inl made) = hung_makes was s call does made
hung_ends a (call ∷ before) s (was, led, does) (inr made) = only_hung s (stays_by was s call ended.Hung does (hung_ends a before was led made))

-- After which calls nothing is left to be done.

abbrev IsResting : Phase → Type 0
IsResting Resting = Unit {0}
IsResting p = ⊥

resting : (p : Phase) → p ≡ Resting → IsResting p
resting p is = subst (λ (q : Phase). IsResting q) (sym is) tt

quiet_goes_on : (idle : Bool) (x : Ended) → IsResting (if idle then Parting x else Pulling) → ⊥
quiet_goes_on true x h = h
quiet_goes_on false x h = h

short_rests : (s : Talk) (p : Phase) → s.phase ≡ p → IsTold p → IsResting (short_at s p).phase → p ≡ Sweeping
short_rests s Sweeping at told h = refl
short_rests s (Entered pulls) at told h = absurd h
short_rests s LoggedIn at told h = absurd h
short_rests s PullingOnce at told h = absurd (subst (λ (q : Phase). IsResting q) at h)
short_rests s Pulling at told h = absurd (subst (λ (q : Phase). IsResting q) at h)
short_rests s p at told h = absurd told

phase_of : (s s' : State) → s' ≡ s → s'.talk.phase ≡ Resting → IsResting s.talk.phase
phase_of s s' is rest = resting s.talk.phase (ap (λ (y : State). y.talk.phase) (sym is) ∙ rest)

-- a call after which something is to be done
goes_on : (s' : State) → (s'.talk.phase ≡ Resting → ⊥) → (s'.talk.phase ≡ Resting) ↔ ⊥
goes_on s' none = (none, λ h. absurd h)

pub rests : (s s' : State) (call : Call) → Does s call s' → (s'.talk.phase ≡ Resting) ↔ Rests s call s'
rests s s' (Next want) (accounts, wants, after) = rests_after accounts s want s' wants after
rests s s' (Told r) (told, is) = (tells s.talk s'.talk r told (ap (λ (y : State). y.talk) is)).1
rests s s' ToldShort (told, is) = (
  λ rest. short_rests s.talk s.talk.phase refl told (phase_of _ s' is rest),
  λ (sweeps : s.talk.phase ≡ Sweeping). ap (λ (y : State). y.talk.phase) is ∙ ap (λ (q : Phase). (short_at s.talk q).phase) sweeps,
)
rests s s' (Hear t piece) (at, is) = goes_on s' (λ rest. phase_of _ s' is rest)
rests s s' (HearShort t) (at, is) = goes_on s' (λ rest. resting (Left ended.NoMemory) (ap (λ (y : Talk). y.phase) (sym is) ∙ rest))
rests s s' (Late t) (at, is) = goes_on s' (λ rest. phase_of _ s' is rest)
rests s s' (Quiet t) (at, is) =
    goes_on s' (λ rest. quiet_goes_on (is_idle s.talk.stage s.talk.opened s.talk.heard t) (ended.Idle t) (phase_of _ s' is rest))
rests s s' (Hung t) (at, is) = goes_on s' (λ rest. phase_of _ s' is rest)
rests s s' NextShort (going, is) = goes_on s' (λ rest. resting (Left ended.NoMemory) (sym is ∙ rest))
rests s s' (Gave dice) (at, is) = goes_on s' (λ rest. phase_of _ s' is rest)
