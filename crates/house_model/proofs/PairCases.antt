-- What comes of a subscription's stanza, effect by effect.
use Rattle.std.proofs.Common.{List, [], ◌∷◌, ◌++◌, Option, Some, None, Bool, true, false, not, ◌&&◌, if◌then◌else◌, IfSome}
use Rattle.std.specs.List.{AllByRecursion}
use Rattle.jid_core.specs.Addresses.{Address, same_bare}
use Rattle.stanza_model.specs.Subscriptions.{outbound}
use Rattle.stanza_model.specs.declared.effect.Change.TheVariants as change
use Rattle.stanza_model.specs.declared.effect.Effect.{Effect}
use Rattle.stanza_model.specs.declared.effect.Effect.TheVariants.{Set}
use Rattle.stanza_model.specs.declared.kinds.PresenceForm.{PresenceForm}
use Rattle.stanza_model.specs.declared.kinds.PresenceForm.TheVariants.{Available, Unavailable, Subscribe, Subscribed, Unsubscribe, Unsubscribed, Probe, Error}
use Rattle.stanza_model.specs.declared.shared.Outcome.{Outcome}
use Rattle.stanza_model.specs.declared.shared.Show.{Show}
use Rattle.stanza_model.specs.declared.shared.Side.{Side}
use Rattle.subscription_pairs.specs.Changes.{after_pushes, asked, both_ended, effects_of, is_made, made, pushed, pushed_mine}
use Rattle.subscription_pairs.specs.Changes.{pushed_theirs, removal, row, row_subscribe, row_subscribed, row_unsubscribe}
use Rattle.subscription_pairs.specs.Changes.{row_unsubscribed, sees, subscription, then_cancelled, untold}
use Rattle.subscription_pairs.specs.Deliveries.{delivered, shown}
use Rattle.subscription_pairs.specs.Limits.{fits}
use Rattle.subscription_pairs.specs.Users.{User, new_contact, side_of, user_of}
use Rattle.house_model.proofs.Founds.{append_all, either_all}

-- what holds of all that is noted, pushed, delivered and shown between two users
pub record Tells (P : Effect → Type 0) (a b : User) : Type 0 where
  pub sees : (x y : Address) (is : Bool) → P (sees x y is)
  pub asked : (x y : Address) (is : Bool) → P (asked x y is)
  pub made : P (Set (change.Contact (user_of a.bare) b.bare [] []))
  pub push_mine : (side : Side) → AllByRecursion P (pushed a b.bare side)
  pub push_theirs : (side : Side) → AllByRecursion P (pushed b a.bare side)
  pub deliver : (form : PresenceForm) → AllByRecursion P (delivered form a.bare b.sessions)
  pub back : (form : PresenceForm) → AllByRecursion P (delivered form b.bare a.sessions)
  pub shown : (show : Show) → AllByRecursion P (shown show a b)

module _ (P : Effect → Type 0) (a b : User) (all : Tells P a b) where
  made_all : (mine : Side) (o : Outcome) → AllByRecursion P (made a b mine o)
  made_all mine o = either_all P (is_made mine o) (Set (change.Contact (user_of a.bare) b.bare [] []) ∷ []) [] (all.made, tt) tt

  mine_all : (o : Outcome) → AllByRecursion P (pushed_mine a b o)
  mine_all o = either_all P o.push_mine (pushed a b.bare o.mine) [] (all.push_mine o.mine) tt

  theirs_all : (o : Outcome) → AllByRecursion P (pushed_theirs a b o)
  theirs_all o = either_all P o.push_theirs (pushed b a.bare o.theirs) [] (all.push_theirs o.theirs) tt

  subscribe_all : (mine : Side) (o : Outcome) → AllByRecursion P (row_subscribe a b mine o)
  subscribe_all mine o =
      append_all P (made a b mine o ++ asked a.bare b.bare true ∷ [] ++ pushed_mine a b o) _
      (append_all P (made a b mine o ++ asked a.bare b.bare true ∷ []) _
      (append_all P (made a b mine o) _ (made_all mine o) (all.asked a.bare b.bare true, tt)) (mine_all o))
      (all.deliver Subscribe)

  subscribed_all : (mine : Side) (o : Outcome) → AllByRecursion P (row_subscribed a b mine o)
  subscribed_all mine o =
      let first : List Effect = made a b mine o ++ delivered Subscribed a.bare b.sessions in
      let second : List Effect = first ++ pushed_theirs a b o in
      let third : List Effect = second ++ pushed_mine a b o in (
        all.asked b.bare a.bare false,
        (
          all.sees b.bare a.bare true,
          append_all P third (shown o.show a b)
              (append_all P second (pushed_mine a b o)
              (append_all P first (pushed_theirs a b o)
              (append_all P (made a b mine o) (delivered Subscribed a.bare b.sessions) (made_all mine o) (all.deliver Subscribed))
              (theirs_all o)) (mine_all o)) (all.shown o.show),
        ),
      )

  unsubscribe_all : (o : Outcome) → AllByRecursion P (row_unsubscribe a b o)
  unsubscribe_all o =
      let first : List Effect = delivered Unsubscribe a.bare b.sessions ++ pushed_mine a b o in
      let second : List Effect = first ++ pushed_theirs a b o in (
        all.sees a.bare b.bare false,
        (
          all.asked a.bare b.bare false,
          append_all P second (shown o.show a b)
              (append_all P first (pushed_theirs a b o)
              (append_all P (delivered Unsubscribe a.bare b.sessions) (pushed_mine a b o) (all.deliver Unsubscribe) (mine_all o))
              (theirs_all o)) (all.shown o.show),
        ),
      )

  unsubscribed_all : (o : Outcome) → AllByRecursion P (row_unsubscribed a b o)
  unsubscribed_all o =
      let first : List Effect = delivered Unsubscribed a.bare b.sessions ++ pushed_theirs a b o in
      let second : List Effect = first ++ pushed_mine a b o in (
        all.sees b.bare a.bare false,
        (
          all.asked b.bare a.bare false,
          append_all P second (shown o.show a b)
              (append_all P first (pushed_mine a b o)
              (append_all P (delivered Unsubscribed a.bare b.sessions) (pushed_theirs a b o) (all.deliver Unsubscribed) (theirs_all o))
              (mine_all o)) (all.shown o.show),
        ),
      )

  row_all : (mine : Side) (o : Outcome) (back : Bool) (form : Option PresenceForm) → AllByRecursion P (row a b mine o back form)
  row_all mine o true (Some form) = all.back form
  row_all mine o true None = tt
  row_all mine o false None = tt
  row_all mine o false (Some Subscribe) = subscribe_all mine o
  row_all mine o false (Some Subscribed) = subscribed_all mine o
  row_all mine o false (Some Unsubscribe) = unsubscribe_all o
  row_all mine o false (Some Unsubscribed) = unsubscribed_all o
  row_all mine o false (Some Available) = tt
  row_all mine o false (Some Unavailable) = tt
  row_all mine o false (Some Probe) = tt
  row_all mine o false (Some Error) = tt

  of_all : (mine : Side) (o : Outcome) → AllByRecursion P (effects_of a b mine o)
  of_all mine o = row_all mine o o.back o.deliver

  -- a subscription's stanza, where the roster has room
  full_all : (b1 : Bool) (es : List Effect) → AllByRecursion P es
      → IfSome (if b1 then None else Some es) (λ effects. AllByRecursion P effects)
  full_all true es is = tt
  full_all false es is = is

  same_all : (b1 : Bool) (more : Option (List Effect)) → IfSome more (λ effects. AllByRecursion P effects)
      → IfSome (if b1 then Some [] else more) (λ effects. AllByRecursion P effects)
  same_all true more is = tt
  same_all false more is = is

  pub subscription_all : (form : PresenceForm) → IfSome (subscription a b form) (λ effects. AllByRecursion P effects)
  subscription_all form =
      let mine = side_of a b in
      let o = outbound (side_of a b) (side_of b a) form in
      same_all (same_bare a.bare b.bare) _
      (full_all (is_made mine o && not (fits (a.contacts ++ new_contact b.bare o.mine ∷ []))) (effects_of a b mine o) (of_all mine o))

-- a removal; the other's sessions may have been told once more by then
pub removal_all : (P : Effect → Type 0) (a b : User) → Tells P a b → ((o : Outcome) → Tells P a (after_pushes o b))
    → AllByRecursion P (removal a b)
removal_all P a b all later =
    let mine = side_of a b in
    let first = outbound (side_of a b) (side_of b a) Unsubscribe in
    either_all P (same_bare a.bare b.bare) [] (both_ended a b mine first) tt
    (append_all P (effects_of a b mine (untold first)) (then_cancelled a b first)
    (of_all P a b all mine (untold first))
    (of_all P a (after_pushes first b) (later first) first.mine (untold (outbound first.mine first.theirs Unsubscribed))))
