-- What a subscription's stanza keeps of two sides.
use Rattle.std.proofs.Common.{◌≡◌, Bool, true, false, ◌||◌, refl, if◌then◌else◌}
use Rattle.stanza_model.specs.Subscriptions.{approved, cancelled, outbound, requested, withdrawn}
use Rattle.stanza_model.specs.declared.kinds.PresenceForm.{PresenceForm}
use Rattle.stanza_model.specs.declared.kinds.PresenceForm.TheVariants.{Available, Unavailable, Subscribe, Subscribed, Unsubscribe, Unsubscribed, Probe, Error}
use Rattle.stanza_model.specs.declared.shared.Outcome.{Outcome}
use Rattle.stanza_model.specs.declared.shared.Side.{Side}
use Rattle.subscription_pairs.specs.Sides.{AreListed, AreOpposite}

-- a fact of the sides after either of two outcomes
either : (P : Side → Side → Type 0) (b : Bool) (one other : Outcome) → (b ≡ true → P one.mine one.theirs) → P other.mine other.theirs
    → P (if b then one else other).mine (if b then one else other).theirs
either P true one other yes' no' = yes' refl
either P false one other yes' no' = no'

pub opposite-outbound : (mine theirs : Side) (form : PresenceForm) → AreOpposite mine theirs
    → AreOpposite (outbound mine theirs form).mine (outbound mine theirs form).theirs
opposite-outbound mine theirs Subscribe o =
    either AreOpposite mine.sees _ (requested mine theirs) (λ _. o) (record { sees = o.sees; seen = o.seen; asked = refl; asked_by = o.asked_by })
opposite-outbound mine theirs Subscribed o =
    either AreOpposite mine.asked_by (approved mine theirs) _ (λ _. record { sees = o.sees; seen = refl; asked = o.asked; asked_by = refl }) o
opposite-outbound mine theirs Unsubscribe o =
    either AreOpposite (mine.sees || mine.asked) (withdrawn mine theirs) _ (λ _. record { sees = refl; seen = o.seen; asked = refl; asked_by = o.asked_by }) o
opposite-outbound mine theirs Unsubscribed o =
    either AreOpposite (mine.seen || mine.asked_by) (cancelled mine theirs) _ (λ _. record { sees = o.sees; seen = refl; asked = o.asked; asked_by = refl }) o
opposite-outbound mine theirs Available o = o
opposite-outbound mine theirs Unavailable o = o
opposite-outbound mine theirs Probe o = o
opposite-outbound mine theirs Error o = o

never : (P : Type 0) → false ≡ true → P
never P e = absurd (cc)

pub listed-outbound : (mine theirs : Side) (form : PresenceForm) → AreListed mine theirs
    → AreListed (outbound mine theirs form).mine (outbound mine theirs form).theirs
listed-outbound mine theirs Subscribe o =
    either AreListed mine.sees _ (requested mine theirs) (λ _. o) (record {
      sees = λ is. (refl, (o.sees is).1);
      seen = λ is. (refl, (o.seen is).1);
      asked = λ is. refl;
      asked_by = o.asked_by;
    })
listed-outbound mine theirs Subscribed o =
    either AreListed mine.asked_by (approved mine theirs) _ (λ by. record {
      sees = λ is. (refl, (o.sees is).1);
      seen = λ is. (refl, o.asked_by by);
      asked = λ is. refl;
      asked_by = λ is. never _ is;
    }) o
listed-outbound mine theirs Unsubscribe o =
    either AreListed (mine.sees || mine.asked) (withdrawn mine theirs) _ (λ _. record {
      sees = λ is. never _ is;
      seen = o.seen;
      asked = λ is. never _ is;
      asked_by = o.asked_by;
    }) o
listed-outbound mine theirs Unsubscribed o =
    either AreListed (mine.seen || mine.asked_by) (cancelled mine theirs) _ (λ _. record {
      sees = o.sees;
      seen = λ is. never _ is;
      asked = o.asked;
      asked_by = λ is. never _ is;
    }) o
listed-outbound mine theirs Available o = o
listed-outbound mine theirs Unavailable o = o
listed-outbound mine theirs Probe o = o
listed-outbound mine theirs Error o = o
