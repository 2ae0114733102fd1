-- A session that is available already is shown nothing by its presence.
use Rattle.std.proofs.Common.{◌≡◌, List, [], ◌∷◌, ◌++◌, Option, Some, None, true, if◌then◌else◌, map, refl, ap, sym, ◌∙◌}
use Rattle.jid_core.specs.Addresses.{Address}
use Rattle.presence_core.specs.Broadcasts.{announced, asked_by, available, shown_to, welcome, with_priority}
use Rattle.presence_core.specs.Priorities.{priority_in}
use Rattle.stanza_model.specs.declared.here.Here.{Here}
use Rattle.stanza_model.specs.declared.kinds.PresenceForm.TheVariants.{Available, Unavailable, Subscribe, Subscribed, Unsubscribe, Unsubscribed, Probe, Error}
use Rattle.stanza_model.specs.declared.shared.Shown.{Shown}
use Rattle.stanza_model.specs.declared.stanza.Stanza.{Stanza}
use Rattle.stanza_model.specs.declared.stanza.Stanza.TheVariants.{Message, Presence, Iq, Faulty}

no_welcome : (who : Here) (shown : List Shown) (asking : List Address) → who.available ≡ true → welcome who [] [] ≡ welcome who shown asking
no_welcome who shown asking is =
    ap (λ b. if b then [] else map (shown_to who) [] ++ map (asked_by who) []) is ∙ sym (ap (λ b. if b then [] else map (shown_to who) shown ++ map (asked_by who) asking) is)

pub no_newcomer : (who : Here) (st : Stanza) (watchers : List Here) (shown : List Shown) (asking : List Address) → who.available ≡ true
    → available who st watchers [] [] ≡ available who st watchers shown asking
no_newcomer who (Presence None Available e) watchers shown asking is =
    ap (λ more. with_priority who (Presence None Available e) (priority_in e) (λ priority. announced priority who e watchers ++ more)) (no_welcome who shown asking is)
no_newcomer who (Presence None Unavailable e) watchers shown asking is = refl
no_newcomer who (Presence None Subscribe e) watchers shown asking is = refl
no_newcomer who (Presence None Subscribed e) watchers shown asking is = refl
no_newcomer who (Presence None Unsubscribe e) watchers shown asking is = refl
no_newcomer who (Presence None Unsubscribed e) watchers shown asking is = refl
no_newcomer who (Presence None Probe e) watchers shown asking is = refl
no_newcomer who (Presence None Error e) watchers shown asking is = refl
no_newcomer who (Presence (Some to) form e) watchers shown asking is = refl
no_newcomer who (Message to form e) watchers shown asking is = refl
no_newcomer who (Iq to id form e) watchers shown asking is = refl
no_newcomer who (Faulty kind to id answered condition) watchers shown asking is = refl
