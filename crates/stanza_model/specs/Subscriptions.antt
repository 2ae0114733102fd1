-- What comes of a subscription's stanza (RFC 6121, 3 and appendix A), by the sender's side towards the other and the other's towards the sender.
use Rattle.std.specs.Prelude.{Bool, true, false, ◌&&◌, ◌||◌, if◌then◌else◌, Some, None}
use Rattle.stanza_model.specs.declared.kinds.PresenceForm.{PresenceForm}
use Rattle.stanza_model.specs.declared.kinds.PresenceForm.TheVariants.{Subscribe, Subscribed, Unsubscribe, Unsubscribed}
use Rattle.stanza_model.specs.declared.shared.Outcome.{Outcome}
use Rattle.stanza_model.specs.declared.shared.Show.TheVariants.{Nothing, MineAvailable, MineUnavailable, TheirsUnavailable}
use Rattle.stanza_model.specs.declared.shared.Side.{Side}
use Rattle.stanza_model.specs.declared.shared.Subscription.{Subscription}
use Rattle.stanza_model.specs.declared.shared.Subscription.TheVariants.{Neither, To, From, Both}

-- RFC 6121, 2.1.2.5: by whether its owner sees the contact's presence, and whether the contact sees its owner's
abbrev pub state_by : Bool → Bool → Subscription
state_by true true = Both
state_by true false = To
state_by false true = From
state_by false false = Neither

abbrev pub state : Side → Subscription
state side = state_by side.sees side.seen

-- The rows. A contact is pushed where it is in the roster.

abbrev pub unchanged : Side → Side → Outcome
unchanged mine theirs = record {
  mine = mine;
  theirs = theirs;
  deliver = None;
  back = false;
  push_mine = false;
  push_theirs = false;
  show = Nothing;
}

-- RFC 6121, 3.1.3: who is subscribed is answered on behalf of the other
abbrev pub answered : Side → Side → Outcome
answered mine theirs = record (unchanged mine theirs) { deliver = Some Subscribed; back = true }

-- RFC 6121, 3.1.2 and 3.1.3: a subscription is requested
abbrev pub requested : Side → Side → Outcome
requested mine theirs = record {
  mine = record mine { asked = true; listed = true };
  theirs = record theirs { asked_by = true };
  deliver = Some Subscribe;
  back = false;
  push_mine = true;
  push_theirs = false;
  show = Nothing;
}

-- RFC 6121, 3.1.5 and 3.1.6: the other's request is approved, and it sees the sender's presence
abbrev pub approved : Side → Side → Outcome
approved mine theirs = record {
  mine = record mine { asked_by = false; seen = true; listed = true };
  theirs = record theirs { asked = false; sees = true };
  deliver = Some Subscribed;
  back = false;
  push_mine = true;
  push_theirs = theirs.listed;
  show = MineAvailable;
}

-- RFC 6121, 3.3.2 and 3.3.3: the sender unsubscribes, or takes its request back
abbrev pub withdrawn : Side → Side → Outcome
withdrawn mine theirs = record {
  mine = record mine { sees = false; asked = false };
  theirs = record theirs { seen = false; asked_by = false };
  deliver = Some Unsubscribe;
  back = false;
  push_mine = mine.listed;
  push_theirs = mine.sees && theirs.listed;
  show = if mine.sees then TheirsUnavailable else Nothing;
}

-- RFC 6121, 3.2.2 and 3.2.3: the other's subscription is cancelled, or its request denied
abbrev pub cancelled : Side → Side → Outcome
cancelled mine theirs = record {
  mine = record mine { seen = false; asked_by = false };
  theirs = record theirs { sees = false; asked = false };
  deliver = Some Unsubscribed;
  back = false;
  push_mine = mine.seen && mine.listed;
  push_theirs = theirs.listed;
  show = if mine.seen then MineUnavailable else Nothing;
}

-- a presence of another type changes no subscription
abbrev pub outbound : Side → Side → PresenceForm → Outcome
outbound mine theirs Subscribe = if mine.sees then answered mine theirs else requested mine theirs
outbound mine theirs Subscribed = if mine.asked_by then approved mine theirs else unchanged mine theirs
outbound mine theirs Unsubscribe = if mine.sees || mine.asked then withdrawn mine theirs else unchanged mine theirs
outbound mine theirs Unsubscribed = if mine.seen || mine.asked_by then cancelled mine theirs else unchanged mine theirs
outbound mine theirs form = unchanged mine theirs
