-- What a reply ends, and where it leaves nothing to be done.
use Rattle.std.proofs.Common.{◌≡◌, Bool, true, false, Option, Some, None, refl, sym, subst, if◌then◌else◌}
use Rattle.std.specs.Prelude.{◌↔◌}
use Rattle.house_model.specs.declared.reply.Reply.{Reply}
use Rattle.house_model.specs.declared.reply.Reply.TheVariants as reply
use Rattle.conn_asks.specs.declared.ended.Ended.{Ended}
use Rattle.conn_asks.specs.declared.ended.Ended.TheVariants as ended
use Rattle.conn_asks.specs.declared.failure.Failure.TheVariants as failure
use Rattle.conn_flow.specs.declared.phase.Phase.{Phase}
use Rattle.conn_flow.specs.declared.phase.Phase.TheVariants.{Resting, Saying, Refusing, Entered}
use Rattle.conn_flow.specs.declared.phase.Phase.TheVariants.{LoggedIn, PullingOnce, Pulling, Sweeping, Parting}
use Rattle.conn_flow.specs.declared.talk.Talk.{Talk}
use Rattle.conn_flow.specs.Flows.{IsTold, handled_phase, logged_by, told_at}
use Rattle.conn_flow.specs.Reasons.{IsOwnIf, LeavesNothing, end_at, end_by}

-- a phase that has this end and rests just so
abbrev pub Told : Phase → Option Ended → Type 0 → Type 0
Told p end rests = (end_at p ≡ end) × ((p ≡ Resting) ↔ rests)

abbrev IsResting : Phase → Type 0
IsResting Resting = Unit {0}
IsResting p = ⊥

-- a phase that doesn't rest
goes_on : (p : Phase) → (IsResting p → ⊥) → (p ≡ Resting) ↔ ⊥
goes_on p none = (λ is. none (subst (λ (q : Phase). IsResting q) (sym is) tt), λ h. absurd h)

no : ⊥ → ⊥
no h = h

handled_tells : (more : Bool) → Told (handled_phase more) None (more ≡ true)
handled_tells true = (refl, (λ is. refl, λ is. refl))
handled_tells false = (refl, (λ is. absurd ((goes_on Pulling no).0 is), λ is. absurd (let d : false ≡ true = is in cc)))

entered_tells : (pulls more : Bool) → Told (if pulls then PullingOnce else handled_phase more) None ((pulls ≡ false) × (more ≡ true))
entered_tells true more = (refl, (λ is. absurd ((goes_on PullingOnce no).0 is), λ is. absurd (let d : true ≡ false = is.0 in cc)))
entered_tells false more =
    ((handled_tells more).0, (λ is. (refl, (handled_tells more).1.0 is), λ is. (handled_tells more).1.1 is.1))

nothing_tells : (due : Bool) → Told (if due then Sweeping else Resting) None (due ≡ false)
nothing_tells true = (refl, (λ is. absurd ((goes_on Sweeping no).0 is), λ is. absurd (let d : true ≡ false = is in cc)))
nothing_tells false = (refl, (λ is. refl, λ is. refl))

logged_tells : (s : Talk) (user : Option _) → s.phase ≡ LoggedIn → Told (logged_by s user).phase None ⊥
logged_tells s (Some user) at = (refl, goes_on Saying no)
logged_tells s None at = subst (λ (q : Phase). Told q None ⊥) (sym at) (refl, goes_on LoggedIn no)

told_tells : (s : Talk) (p : Phase) (r : Reply) → s.phase ≡ p → IsTold p → Told (told_at s p r).phase (end_by p r) (LeavesNothing s.more p r)
told_tells s (Entered pulls) (reply.Over cause) at told = (refl, goes_on (Parting (ended.Over cause)) no)
told_tells s (Entered pulls) r at told = entered_tells pulls s.more
told_tells s LoggedIn reply.Done at told = logged_tells s s.user at
told_tells s LoggedIn (reply.Over cause) at told = (refl, goes_on (Parting (ended.Over cause)) no)
told_tells s LoggedIn r at told = (refl, goes_on (Refusing failure.NotAuthorized) no)
told_tells s PullingOnce (reply.Over cause) at told = (refl, goes_on (Parting (ended.Over cause)) no)
told_tells s PullingOnce r at told = handled_tells s.more
told_tells s Pulling reply.Frame at told = (refl, goes_on Pulling no)
told_tells s Pulling (reply.Nothing due) at told = nothing_tells due
told_tells s Pulling (reply.Over cause) at told = (refl, goes_on (Parting (ended.Over cause)) no)
told_tells s Pulling r at told = (refl, (λ is. tt, λ is. refl))
told_tells s Sweeping (reply.Over cause) at told = (refl, goes_on Pulling no)
told_tells s Sweeping r at told = (refl, goes_on Pulling no)
told_tells s p r at told = absurd told

pub tells : (s s' : Talk) (r : Reply) → IsTold s.phase → s' ≡ told_at s s.phase r → Told s'.phase (end_by s.phase r) (LeavesNothing s.more s.phase r)
tells s s' r told is =
    subst (λ (x : Talk). Told x.phase (end_by s.phase r) (LeavesNothing s.more s.phase r)) (sym is) (told_tells s s.phase r refl told)

-- an end that a reply tells is one of a flow
told_own : (p : Phase) (r : Reply) → IsOwnIf (end_by p r)
told_own Sweeping r = tt
told_own p (reply.Over cause) = tt
told_own p r = tt

pub tells_own : (s s' : Talk) (r : Reply) → IsTold s.phase → s' ≡ told_at s s.phase r → IsOwnIf (end_at s'.phase)
tells_own s s' r told is = subst (λ (end : Option Ended). IsOwnIf end) (sym (tells s s' r told is).0) (told_own s.phase r)
