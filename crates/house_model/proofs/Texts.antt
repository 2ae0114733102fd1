-- Only a Pull gives a text.
use Rattle.std.proofs.Common.{◌≡◌, ℕ, List, [], Option, Bool, refl}
use Rattle.stanza_model.specs.declared.stanza.Stanza.{Stanza}
use Rattle.sm_resume.specs.declared.id.ResumeId.{ResumeId}
use Rattle.house_model.specs.declared.event.Event.{Event}
use Rattle.house_model.specs.declared.event.Event.TheVariants as event
use Rattle.house_model.specs.States.{State, Kept, keep}
use Rattle.house_model.specs.Steps.{verdict, turn}
use Rattle.house_model.specs.Histories.{GivesNoText, step, kept_step}
use Rattle.house_model.proofs.VerdictLemmas.{verdict_silent}

verdict_text : (k : Kept) (e : Event) → GivesNoText e → (verdict k e).text ≡ []
verdict_text k (event.Pull w t) is = absurd is
verdict_text k (event.OpenLine w) is = refl
verdict_text k (event.Login w user) is = (verdict_silent k (event.Login w user) tt).text
verdict_text k (event.Bind w id resource t dice) is = (verdict_silent k (event.Bind w id resource t dice) tt).text
verdict_text k (event.Enable w wants dice) is = (verdict_silent k (event.Enable w wants dice) tt).text
verdict_text k (event.Resume w id h t) is = (verdict_silent k (event.Resume w id h t) tt).text
verdict_text k (event.Act w stanza t) is = (verdict_silent k (event.Act w stanza t) tt).text
verdict_text k (event.Ack w h) is = (verdict_silent k (event.Ack w h) tt).text
verdict_text k (event.Ask w) is = (verdict_silent k (event.Ask w) tt).text
verdict_text k (event.DropLine w t) is = (verdict_silent k (event.DropLine w t) tt).text
verdict_text k (event.CloseLine w t) is = (verdict_silent k (event.CloseLine w t) tt).text
verdict_text k (event.Sweep w t) is = (verdict_silent k (event.Sweep w t) tt).text

pub no_text : (k : Kept) (e : Event) → GivesNoText e → (kept_step k e).text ≡ []
no_text k e is = verdict_text (turn e k) e is

pub step_no_text : (st : State) (e : Event) → GivesNoText e → (step st e).text ≡ []
step_no_text st e is = verdict_text (keep (turn e st)) e is

-- the same for each event
pub text-open_line : (k : Kept) (w : ℕ) → (kept_step k (event.OpenLine w)).text ≡ []
text-open_line k w = refl

pub text-login : (k : Kept) (w : ℕ) (user : List ℕ) → (kept_step k (event.Login w user)).text ≡ []
text-login k w user = no_text k (event.Login w user) tt

pub text-bind : (k : Kept) (w : ℕ) (id : List ℕ) (resource : Option (List ℕ)) (t : ℕ) (dice : List ℕ)
    → (kept_step k (event.Bind w id resource t dice)).text ≡ []
text-bind k w id resource t dice = no_text k (event.Bind w id resource t dice) tt

pub text-enable : (k : Kept) (w : ℕ) (wants : Bool) (dice : List ℕ)
    → (kept_step k (event.Enable w wants dice)).text ≡ []
text-enable k w wants dice = no_text k (event.Enable w wants dice) tt

pub text-resume : (k : Kept) (w : ℕ) (id : Option ResumeId) (h t : ℕ) → (kept_step k (event.Resume w id h t)).text ≡ []
text-resume k w id h t = no_text k (event.Resume w id h t) tt

pub text-act : (k : Kept) (w : ℕ) (stanza : Stanza) (t : ℕ) → (kept_step k (event.Act w stanza t)).text ≡ []
text-act k w stanza t = no_text k (event.Act w stanza t) tt

pub text-ack : (k : Kept) (w h : ℕ) → (kept_step k (event.Ack w h)).text ≡ []
text-ack k w h = no_text k (event.Ack w h) tt

pub text-ask : (k : Kept) (w : ℕ) → (kept_step k (event.Ask w)).text ≡ []
text-ask k w = no_text k (event.Ask w) tt

pub text-drop_line : (k : Kept) (w t : ℕ) → (kept_step k (event.DropLine w t)).text ≡ []
text-drop_line k w t = no_text k (event.DropLine w t) tt

pub text-close_line : (k : Kept) (w t : ℕ) → (kept_step k (event.CloseLine w t)).text ≡ []
text-close_line k w t = no_text k (event.CloseLine w t) tt

pub text-sweep : (k : Kept) (w t : ℕ) → (kept_step k (event.Sweep w t)).text ≡ []
text-sweep k w t = no_text k (event.Sweep w t) tt
