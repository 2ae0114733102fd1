-- Which end is due, and what an item makes of it.
use Rattle.std.proofs.Common.{◌≡◌, ◌⊎◌, ℕ, ◌+◌, ◌≤◌, min, List, [], ◌∷◌, refl, sym, ap, ◌∙◌, subst, inl, inr, Bool, true, false, Option, Some, None, arith}
use Rattle.std.proofs.lemmas.Bool.{ltb-false}
use Rattle.std.specs.Prelude.{if◌then◌else◌, nat_lt}
use Rattle.stream_grammar.specs.declared.item.Item.{Item}
use Rattle.conn_asks.specs.declared.asked.Asked.{Asked}
use Rattle.conn_asks.specs.declared.asked.Asked.TheVariants as asked
use Rattle.conn_asks.specs.declared.ended.Ended.{Ended}
use Rattle.conn_asks.specs.declared.ended.Ended.TheVariants as ended
use Rattle.conn_asks.specs.declared.stream_error.StreamError.{StreamError}
use Rattle.conn_asks.specs.StreamErrors.{error_of}
use Rattle.conn_asks.specs.Asking.{Asks}
use Rattle.conn_flow.specs.Streams.{cut}
use Rattle.conn_flow.specs.Moves.{Takes}
use Rattle.conn_flow.specs.Duties.{AsksIf, Site, Due, Opens, Rest, Text, Id, Dice, Submits, LogsIn, PullsOnce, Pulls, Sweeps, Leaves}
use Rattle.conn_flow.specs.Duties.{Left, Duty, asked_due, counts_failure, end_due, error_due, follows, numbered}
use Rattle.conn_flow.specs.Following.{TakesDue, rest_due}
use Rattle.flow_laws.specs.Causes.{AsksEnd, IsThird, Makes}
use Rattle.conn_flow.proofs.ItemEnds.{IsItemEnd, asks_ends}

-- the end is due
abbrev pub IsDue : Ended → List Due → Type 0
IsDue x [] = ⊥
IsDue x (Leaves y ∷ rest) = (x ≡ y) ⊎ IsDue x rest
IsDue x (Left y ∷ rest) = (x ≡ y) ⊎ IsDue x rest
IsDue x (Opens ∷ rest) = IsDue x rest
IsDue x (Rest bytes ∷ rest) = IsDue x rest
IsDue x (Text text ∷ rest) = IsDue x rest
IsDue x (Id ∷ rest) = IsDue x rest
IsDue x (Dice purpose ∷ rest) = IsDue x rest
IsDue x (Submits event ∷ rest) = IsDue x rest
IsDue x (LogsIn user text ∷ rest) = IsDue x rest
IsDue x (PullsOnce ∷ rest) = IsDue x rest
IsDue x (Pulls ∷ rest) = IsDue x rest
IsDue x (Sweeps ∷ rest) = IsDue x rest

pub only : (x y : Ended) → IsDue x (Leaves y ∷ []) → x ≡ y
only x y (inl e) = e
only x y (inr none) = absurd none

pub only_left : (x y : Ended) → IsDue x (Left y ∷ []) → x ≡ y
only_left x y (inl e) = e
only_left x y (inr none) = absurd none

error_only : (o : Site) (v : Duty) (e : Option StreamError) (x y : Ended) → IsDue x (error_due o v e y) → x ≡ y
error_only o v (Some e) x y d = only x y d
error_only o v None x y d = only x y d

pub end_only : (o : Site) (v : Duty) (x y : Ended) → IsDue x (end_due o v y) → x ≡ y
end_only o v x ended.Closed d = only x ended.Closed d
end_only o v x ended.Hung d = error_only o v (error_of ended.Hung) x ended.Hung d
end_only o v x ended.LinkFault d = error_only o v (error_of ended.LinkFault) x ended.LinkFault d
end_only o v x ended.DiceFault d = error_only o v (error_of ended.DiceFault) x ended.DiceFault d
end_only o v x (ended.Broken g k) d = error_only o v (error_of (ended.Broken g k)) x (ended.Broken g k) d
end_only o v x (ended.BadHeader g) d = error_only o v (error_of (ended.BadHeader g)) x (ended.BadHeader g) d
end_only o v x (ended.BadItem g k) d = error_only o v (error_of (ended.BadItem g k)) x (ended.BadItem g k) d
end_only o v x ended.ThirdFailure d = error_only o v (error_of ended.ThirdFailure) x ended.ThirdFailure d
end_only o v x (ended.Idle t) d = error_only o v (error_of (ended.Idle t)) x (ended.Idle t) d
end_only o v x (ended.Over cause) d = error_only o v (error_of (ended.Over cause)) x (ended.Over cause) d
end_only o v x ended.Spent d = error_only o v (error_of ended.Spent) x ended.Spent d
end_only o v x ended.NoMemory d = error_only o v (error_of ended.NoMemory) x ended.NoMemory d

rest_ends_none : (x : Ended) (bytes : List ℕ) → IsDue x (rest_due bytes) → ⊥
rest_ends_none x [] d = d
rest_ends_none x (b ∷ bytes) d = d

-- A login fails.

abbrev pub IsThirdOf : Duty → Ended → Type 0
IsThirdOf v x = (x ≡ ended.ThirdFailure) × (2 ≤ v.failures) × (min (v.failures + 1) 3 ≡ 3)

pub failed_due : (o : Site) (v c : Duty) (rest : List Due) (x : Ended) (few : Bool) → nat_lt (min (v.failures + 1) 3) 3 ≡ few
    → IsDue x (if few then rest else end_due o c ended.ThirdFailure) → IsDue x rest ⊎ IsThirdOf v x
failed_due o v c rest x true e d = inl d
failed_due o v c rest x false e d =
    let most : 3 ≤ min (v.failures + 1) 3 = ltb-false (min (v.failures + 1) 3) 3 e in
    inr (end_only o c x ended.ThirdFailure d, omega arith, omega arith)

-- An item.

followed_due : (x : Ended) (pulls : Bool) (rest : List Due) → IsDue x (if pulls then PullsOnce ∷ rest else rest) → IsDue x rest
followed_due x true rest d = d
followed_due x false rest d = d

abbrev pub IsThirdTo : Duty → Duty → Ended → Type 0
IsThirdTo v w x = (x ≡ ended.ThirdFailure) × (2 ≤ v.failures) × (w.failures ≡ 3)

asked_makes : (o : Site) (v : Duty) (a : Asked) (rest : List Due) (x : Ended) → (IsDue x rest → ⊥) → IsDue x (asked_due o v a rest).due
    → (a ≡ asked.End x) ⊎ IsThirdTo v (asked_due o v a rest) x
asked_makes o v asked.Header rest x none d = absurd (none d)
asked_makes o v (asked.Invite m) rest x none d = absurd (none d)
asked_makes o v (asked.Fail f) rest x none d =
    elim (failed_due o v (counts_failure v) rest x (nat_lt (min (v.failures + 1) 3) 3) refl d) [ inl k ↦ absurd (none k) | inr third ↦ inr third ]
asked_makes o v (asked.LogIn user success) rest x none d = absurd (none d)
asked_makes o v (asked.Draw purpose) rest x none d = absurd (none d)
asked_makes o v (asked.RefuseResource id) rest x none d = absurd (none d)
asked_makes o v (asked.Submit event) rest x none d = absurd (none (followed_due x (follows event) rest d))
asked_makes o v (asked.End y) rest x none d = inl (ap (λ (z : Ended). asked.End z) (sym (end_only o v x y d)))

item_makes : (o : Site) (v : Duty) (w : Duty) (x : Ended) → IsItemEnd x → AsksEnd o v x → Makes o v Takes w x
item_makes o v w ended.Closed is asks = asks
item_makes o v w ended.Hung is asks = absurd is
item_makes o v w ended.LinkFault is asks = absurd is
item_makes o v w ended.DiceFault is asks = absurd is
item_makes o v w (ended.Broken g k) is asks = asks
item_makes o v w (ended.BadHeader g) is asks = asks
item_makes o v w (ended.BadItem g k) is asks = asks
item_makes o v w ended.ThirdFailure is asks = absurd is
item_makes o v w (ended.Idle t) is asks = absurd is
item_makes o v w (ended.Over cause) is asks = absurd is
item_makes o v w ended.Spent is asks = absurd is
item_makes o v w ended.NoMemory is asks = absurd is

third_makes : (o : Site) (v w : Duty) (x : Ended) → x ≡ ended.ThirdFailure → IsThird o v w → Makes o v Takes w x
third_makes o v w x e third = subst (λ (y : Ended). Makes o v Takes w y) (sym e) third

takes_makes : (o : Site) (v : Duty) (bytes : List ℕ) (rest : List Due) (i : Option Item) (w : Duty) (x : Ended) → v.due ≡ Rest bytes ∷ rest
    → (cut v.stream bytes).item ≡ i
    → AsksIf o (record v { stream = (cut v.stream bytes).stream }) i (rest_due (cut v.stream bytes).rest) w → IsDue x w.due → Makes o v Takes w x
takes_makes o v bytes rest None w x at e is d =
    let same : w ≡ record v { stream = (cut v.stream bytes).stream; due = rest_due (cut v.stream bytes).rest } = is in
    absurd (rest_ends_none x (cut v.stream bytes).rest (subst (λ (u : Duty). IsDue x u.due) same d))
takes_makes o v bytes rest (Some i) w x at e (a, asks, is) d =
    let u : Duty = numbered (record v { stream = (cut v.stream bytes).stream }) in
    let same : w ≡ asked_due o u a (rest_due (cut v.stream bytes).rest) = is in
    let made : (a ≡ asked.End x) ⊎ IsThirdTo u (asked_due o u a (rest_due (cut v.stream bytes).rest)) x =
    asked_makes o u a (rest_due (cut v.stream bytes).rest) x (rest_ends_none x (cut v.stream bytes).rest) (subst (λ (z : Duty). IsDue x z.due) same d) in
    elim made [
      | inl by ↦
          let asks_end : Asks o.line o.domain (numbered v).number v.moment v.stage i (asked.End x) =
          subst (λ (z : Asked). Asks o.line o.domain (numbered v).number v.moment v.stage i z) by asks in
          item_makes o v w x (asks_ends o.line o.domain (numbered v).number v.moment v.stage i (asked.End x) asks_end) (bytes, rest, i, at, e, asks_end)
      | inr third ↦ third_makes o v w x third.0 (third.1, ap (λ (z : Duty). z.failures) same ∙ third.2)
    ]

pub takes_now : (o : Site) (v : Duty) (due : List Due) (w : Duty) (x : Ended) → v.due ≡ due → TakesDue o v due w → IsDue x w.due → Makes o v Takes w x
takes_now o v (Rest bytes ∷ rest) w x at h d = takes_makes o v bytes rest (cut v.stream bytes).item w x at refl h d
takes_now o v [] w x at h d = absurd h
takes_now o v (Opens ∷ rest) w x at h d = absurd h
takes_now o v (Text said ∷ rest) w x at h d = absurd h
takes_now o v (Id ∷ rest) w x at h d = absurd h
takes_now o v (Dice purpose ∷ rest) w x at h d = absurd h
takes_now o v (Submits event ∷ rest) w x at h d = absurd h
takes_now o v (LogsIn user said ∷ rest) w x at h d = absurd h
takes_now o v (PullsOnce ∷ rest) w x at h d = absurd h
takes_now o v (Pulls ∷ rest) w x at h d = absurd h
takes_now o v (Sweeps ∷ rest) w x at h d = absurd h
takes_now o v (Leaves y ∷ rest) w x at h d = absurd h
takes_now o v (Left y ∷ rest) w x at h d = absurd h
