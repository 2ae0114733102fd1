-- What a door tells.
use Rattle.std.specs.Prelude.{◌≡◌, ℕ, ◌-◌, nat_lt, nat_le, nat_eq, not, ◌&&◌, Bool, true, false, List, [], ◌∷◌, ◌++◌, Option, Some, None}
use Rattle.outside.specs.declared.door.Came.{Came}
use Rattle.outside.specs.declared.door.Came.TheVariants as came
use Rattle.outside.specs.Tapes.{Mark}
use Rattle.outside.specs.Plans.{Plan, raised, fails_next, called, failed}
use Rattle.outside.specs.Links.{LinkState, CleanLinkState}

-- the count of links has reached a quota other than 0
abbrev pub reached : ℕ → ℕ → Bool
reached quota links = not (nat_eq quota 0) && nat_le quota links

-- a door shuts exactly where its quota is reached, and counts each link that it hands out
abbrev pub Comes : (L : Type 0) → ℕ → ℕ → ℕ → Came L → Type 0
Comes L quota before now (came.Link l) = (reached quota before ≡ false) × (now ≡ raised before)
Comes L quota before now came.Shut = (reached quota before ≡ true) × (now ≡ before)
Comes L quota before now came.Failed = (reached quota before ≡ false) × (now ≡ before)

-- where it is told, there is nothing yet
abbrev pub Untold : (A : Type 0) → Option (List A) → Type 0
Untold A None = Unit {0}
Untold A (Some xs) = xs ≡ []

-- a link that comes has no marks yet
abbrev pub ComesUnmarked : (L : Type 0) → (L → Option (List Mark)) → Came L → Type 0
ComesUnmarked L tape (came.Link l) = Untold Mark (tape l)
ComesUnmarked L tape came.Shut = Unit {0}
ComesUnmarked L tape came.Failed = Unit {0}

-- where tapes are told, so was the one that is given back, and it comes last
abbrev pub TakesBack : Option (List (List Mark)) → Option (List Mark) → Option (List (List Mark)) → Type 0
TakesBack old tape None = Unit {0}
TakesBack None tape (Some now) = ⊥
TakesBack (Some old) None (Some now) = ⊥
TakesBack (Some old) (Some tape) (Some now) = now ≡ old ++ tape ∷ []

-- a door in memory: its plan, the links to come, its count of links, its quota, the tapes of the links that came back,
-- where it tells them, and the room for more
pub record DoorState : Type 0 where
  pub plan : Plan
  pub left : List LinkState
  pub links : ℕ
  pub quota : ℕ
  pub tapes : Option (List (List Mark))
  pub room : ℕ

-- none of the links has a mark yet
abbrev pub Unmarked : List LinkState → Type 0
Unmarked [] = Unit {0}
Unmarked (l ∷ ls) = Untold Mark l.tape.told × Unmarked ls

-- the next link of the script; after its end the door fails
abbrev pub HandsOut : List LinkState → DoorState → DoorState → Came LinkState → Type 0
HandsOut [] v w result = (result ≡ came.Failed) × (w ≡ record v { plan = failed v.plan })
HandsOut (l ∷ ls) v w result =
    (result ≡ came.Link l) × (w ≡ record v { plan = called v.plan; left = ls; links = raised v.links })

-- what a call of a door in memory comes to
abbrev pub Accepts : DoorState → DoorState → Came LinkState → Type 0
Accepts v w result =
    (reached v.quota v.links ≡ true → (result ≡ came.Shut) × (w ≡ record v { plan = called v.plan }))
    × (reached v.quota v.links ≡ false → fails_next v.plan ≡ true
    → (result ≡ came.Failed) × (w ≡ record v { plan = failed v.plan }))
    × (reached v.quota v.links ≡ false → fails_next v.plan ≡ false → HandsOut v.left v w result)

abbrev pub and_tape : Option (List (List Mark)) → Option (List Mark) → Option (List (List Mark))
and_tape None tape = None
and_tape (Some tapes) None = None
and_tape (Some tapes) (Some tape) = Some (tapes ++ tape ∷ [])

abbrev pub took_by : Bool → DoorState → Option (List Mark) → DoorState
took_by true v tape = record v { tapes = and_tape v.tapes tape; room = v.room - 1 }
took_by false v tape = record v { tapes = None }

-- after a link was given back; a tape that finds no room isn't kept, and from then on none is told
abbrev pub took_back : DoorState → Option (List Mark) → DoorState
took_back v tape = took_by (nat_lt 0 v.room) v tape

-- a door that never fails: the links to come, its count of links, and its quota
pub record CleanDoorState : Type 0 where
  pub left : List CleanLinkState
  pub links : ℕ
  pub quota : ℕ

-- the next link of the script, and after its end one that has ended
abbrev pub next_link : List CleanLinkState → CleanLinkState
next_link [] = record { left = []; ends = 0 }
next_link (l ∷ ls) = l

abbrev pub links_after : List CleanLinkState → List CleanLinkState
links_after [] = []
links_after (l ∷ ls) = ls

-- what a call of a door that never fails comes to
abbrev pub CleanAccepts : CleanDoorState → CleanDoorState → Came CleanLinkState → Type 0
CleanAccepts v w result =
    (reached v.quota v.links ≡ true → (result ≡ came.Shut) × (w ≡ v))
    × (reached v.quota v.links ≡ false
    → (result ≡ came.Link (next_link v.left)) × (w ≡ record v { left = links_after v.left; links = raised v.links }))
