-- What a run of the server comes to.
use Rattle.std.specs.Prelude.{◌≡◌, ◌≢◌, ◌⊎◌, ◌<◌, ◌≤◌, ◌+◌, ◌-◌, ◌*◌, ◌^◌, min, ℕ, List, [], ◌∷◌, ◌++◌}
use Rattle.std.specs.Prelude.{length, map, Option, Some, None, Result, Ok, Err, codes, ⊤}
use Rattle.std.specs.Fmt.{decimal}
use Rattle.outside.specs.Devices.{Front, Rose}
use Rattle.outside.specs.Doors.{Untold}
use Rattle.outside.specs.Posts.{Each, Gathers, added, plus}
use Rattle.outside.specs.Tapes.{Mark, Tells}
use Rattle.account_book.specs.Entries.{Entry, entry_of}
use Rattle.account_book.specs.Lists.{Book, entries_within, names_of}
use Rattle.account_book.specs.declared.fault.LineKind.{LineKind}
use Rattle.house_model.specs.Histories.{Turn, openings}
use Rattle.house_model.specs.States.{Kept, State, opening_with}
use Rattle.script_play.specs.declared.status.Status.{Status}
use Rattle.script_play.specs.declared.status.Status.TheVariants as status
use Rattle.conn_asks.specs.declared.ended.Ended.{Ended}
use Rattle.conn_asks.specs.declared.ended.Ended.TheVariants as ended
use Rattle.conn_staff.specs.declared.roster.Worked.{Worked}
use Rattle.conn_staff.specs.declared.roster.Worked.TheVariants.{PollFault, Shut}
use Rattle.conn_staff.specs.Staffs.{Attended, PostTelling, Staffed, Telling, places_of}
use Rattle.serve_run.specs.declared.serving.Serving.{Serving}
use Rattle.serve_run.specs.Limits.{limits, most_lines, most_list}

-- the house of a server before its first event, for the users of these accounts
abbrev pub opening_for : Serving → Book → State
opening_for asked accounts = opening_with (limits asked.sessions) asked.domain (names_of accounts.accounts) (asked.workers * asked.links)

-- nothing is left of it, or more was read than a list may have
abbrev pub IsEnough : (most : ℕ) → Option (List ℕ) → List ℕ → Type 0
IsEnough most None list = Unit {0}
IsEnough most (Some rest) list = (rest ≡ []) ⊎ (most < length list)

-- a list was read for so many sessions
abbrev pub ReadsList : (sessions : ℕ) → Option (List ℕ) → Option (List ℕ) → List ℕ → Type 0
ReadsList sessions old now list = Front old now list × IsEnough (most_list sessions) now list

-- what a list for so many sessions is read as: its accounts, or the first line at fault
abbrev pub entries_for : (sessions : ℕ) → List ℕ → Result (List Entry) (ℕ × LineKind)
entries_for sessions list = entries_within (most_lines sessions) list

-- a line of a list is the first at fault
abbrev pub IsRefused : Result (List Entry) (ℕ × LineKind) → Status → Type 0
IsRefused read (status.Accounts n) = (kind : LineKind) × (read ≡ Err (n, kind))
IsRefused read status.NoMemory = ⊤
IsRefused read s = ⊥

-- A post as it was handed out: its poller with this quota, and its counts at 0; so many places, to which no link came and which tell no tapes.
abbrev pub IsUnused : Telling → Type 0
IsUnused t = (t.links ≡ 0) × Untold (List Mark) t.tapes

pub record IsOpened (links quota : ℕ) (a : PostTelling) : Type 0 where
  pub quota_is : a.poller.quota ≡ quota
  pub faults : a.poller.faults ≡ 0
  pub count : a.poller.links ≡ 0
  pub places : length a.places ≡ links
  pub unused : Each Telling IsUnused a.places

abbrev pub AllOpened : (links quota : ℕ) → List PostTelling → Type 0
AllOpened links quota posts = Each PostTelling (IsOpened links quota) posts

-- what ports tell: the tapes of the pollers that were given back, post by post and place by place, their counts of links and of faults of dice, the address
-- at which they listened last, and what they drew
pub record Tally : Type 0 where
  pub tapes : Option (List (List (List (List Mark))))
  pub links : ℕ
  pub dice : ℕ
  pub address : Option (List ℕ)
  pub drawn : Option (List (List ℕ))

abbrev pub tally : Option (List (List (List (List Mark)))) → (links dice : ℕ) → Option (List ℕ) → (drawn : Option (List (List ℕ))) → Tally
tally tapes links dice address drawn = record { tapes = tapes; links = links; dice = dice; address = address; drawn = drawn }

-- nothing was drawn, or one secret of 32 bytes
abbrev pub DrewAtMostOne : (drawn now_drawn : Option (List (List ℕ))) → Type 0
DrewAtMostOne drawn now_drawn =
    Tells (List ℕ) drawn now_drawn [] ⊎ ((secret : List ℕ) × (length secret ≡ 32) × Tells (List ℕ) drawn now_drawn (secret ∷ []))

-- posts were given back: the tapes of their places come last, where all are told, and what they counted is added
pub record Gathered (ports : Tally) (posts : List PostTelling) (now : Tally) : Type 0 where
  pub tapes : Gathers ports.tapes (map (λ (a : PostTelling). map (λ (t : Telling). t.tapes) a.places) posts) now.tapes
  pub links : now.links ≡ added ports.links (map (λ (a : PostTelling). a.poller.links) posts)
  pub dice : now.dice ≡ added ports.dice (map (λ (t : Telling). t.dice) (places_of posts))

-- the address of a port of this machine
abbrev pub address_at : (port : ℕ) → List ℕ
address_at port = codes "127.0.0.1:" ++ decimal port

-- what is printed at the end
abbrev pub report : (links turns : ℕ) → List ℕ
report links turns = codes "links " ++ decimal links ++ codes " turns " ++ decimal turns ++ codes "\n"

-- how many of the links ended because the dice failed
abbrev pub is_dice : Ended → ℕ
is_dice ended.DiceFault = 1
is_dice x = 0

abbrev pub dice_in : List Ended → ℕ
dice_in [] = 0
dice_in (x ∷ more) = is_dice x + dice_in more

abbrev pub dice_ends : (o : State) (accounts : Book) (h : List Turn) (n : ℕ) (before now : List Telling) → Attended o accounts h n before now → ℕ
dice_ends o accounts h n [] [] each = 0
dice_ends o accounts h n (a ∷ before) (b ∷ now) (first, rest) = dice_in first.2.ends + dice_ends o accounts h (n + 1) before now rest
dice_ends o accounts h n [] (b ∷ now) each = absurd each
dice_ends o accounts h n (a ∷ before) [] each = absurd each

-- The workers served over a list of accounts until each poller shut or failed: as many as were asked for, each with so many places, at the port. What the
-- ports drew is the secret of the accounts' decoys. What the workers did stands in one legal history from the opening of the house for the users of these
-- accounts, and the posts were given back to the ports. Where fewer than 2^63 turns were taken, the ports count each connection that came in it; and where
-- each poller shut these are as many as the quotas of all workers, where there is one. At least as many faults of dice are counted as links ended by one.
pub record Ran (worked : Worked) (asked : Serving) (list : List ℕ) (ports now_ports : Tally) : Type 0 where
  pub accounts : Book
  pub read : entries_for asked.sessions list ≡ Ok (map entry_of accounts.accounts)
  pub drew : Tells (List ℕ) ports.drawn now_ports.drawn (accounts.secret ∷ [])
  pub before : List PostTelling
  pub now : List PostTelling
  pub as_many : length before ≡ asked.workers
  pub opened : AllOpened asked.links asked.connections before
  pub kept : Kept
  pub staffed : Staffed (opening_for asked accounts) accounts before now worked kept
  pub listened : now_ports.address ≡ Some (address_at asked.port)
  pub gathered : Gathered ports now now_ports
  pub counted : length staffed.history < 2 ^ 63 → now_ports.links ≡ plus ports.links (openings staffed.history)
  pub filled : worked ≡ Shut → length staffed.history < 2 ^ 63 → asked.connections ≢ 0 → openings staffed.history ≡ asked.workers * asked.connections
  pub dice_failed :
      min (ports.dice + dice_ends (opening_for asked accounts) accounts staffed.history 0 (places_of before) (places_of now) staffed.each) (2 ^ 64 - 1)
      ≤ now_ports.dice

-- The server ran to its end: each poller shut. The line tells how many connections came and how many turns the history has.
pub record Served (asked : Serving) (list : List ℕ) (ports now_ports : Tally) (line : List ℕ) : Type 0 where
  pub ran : Ran Shut asked list ports now_ports
  pub line_is : line ≡ report (openings ran.staffed.history) (length ran.staffed.history)

-- nothing listened: the ports tell what they told
pub record NeverListened (ports now_ports : Tally) : Type 0 where
  pub tapes : now_ports.tapes ≡ ports.tapes
  pub links : now_ports.links ≡ ports.links
  pub dice : now_ports.dice ≡ ports.dice
  pub drawn : now_ports.drawn ≡ ports.drawn

-- nothing was served: as many posts as workers were given back as they had been handed out at the port, and the ports drew nothing, or one secret
pub record Unserved (asked : Serving) (ports now_ports : Tally) : Type 0 where
  pub posts : List PostTelling
  pub as_many : length posts ≡ asked.workers
  pub opened : AllOpened asked.links asked.connections posts
  pub listened : now_ports.address ≡ Some (address_at asked.port)
  pub gathered : Gathered ports posts now_ports
  pub drew : DrewAtMostOne ports.drawn now_ports.drawn

-- What failed, where what listens did: listening itself; or the draw of the secret, and nothing was served; or a poller, and the workers served until each
-- poller shut or failed.
abbrev pub ListeningFailed : Serving → List ℕ → (ports now_ports : Tally) → Type 0
ListeningFailed asked list ports now_ports = NeverListened ports now_ports ⊎ Unserved asked ports now_ports ⊎ Ran PollFault asked list ports now_ports

-- What was left where memory was wanting: for what listens, and nothing listened; for what serves, and nothing was served; or for the line, after each
-- poller shut.
abbrev pub CameShort : (left now : Option (List ℕ)) → Serving → (ports now_ports : Tally) → Type 0
CameShort left now asked ports now_ports =
    NeverListened ports now_ports ⊎ Unserved asked ports now_ports
    ⊎ ((list : List ℕ) × ReadsList asked.sessions left now list × Ran Shut asked list ports now_ports)

-- Parts of a run.

-- a poller failed
abbrev pub SomeRose : (before now : List PostTelling) → Type 0
SomeRose [] [] = ⊥
SomeRose (a ∷ before) (b ∷ now) = Rose a.poller.faults b.poller.faults ⊎ SomeRose before now
SomeRose before now = ⊥

-- the workers served over a list, and what was drawn is the secret of its decoys
abbrev pub ServedBy : Worked → Serving → List ℕ → (drawn now_drawn : Option (List (List ℕ))) → (before now : List PostTelling) → Kept → Type 0
ServedBy worked asked list drawn now_drawn before now k =
    (accounts : Book) × (entries_for asked.sessions list ≡ Ok (map entry_of accounts.accounts))
    × Tells (List ℕ) drawn now_drawn (accounts.secret ∷ [])
    × Staffed (opening_for asked accounts) accounts before now worked k

-- they didn't, since the list is at fault or memory was wanting, or the ports failed
abbrev pub Refused : (sessions : ℕ) → List ℕ → Status → Type 0 → Type 0
Refused sessions list s failed = IsRefused (entries_for sessions list) s ⊎ ((s ≡ status.ListenFault) × failed)

-- what was left where nothing was served, by the status
abbrev pub LeftUnserved : Serving → (ports now_ports : Tally) → Status → Type 0
LeftUnserved asked ports now_ports (status.Accounts n) = Unserved asked ports now_ports
LeftUnserved asked ports now_ports s = NeverListened ports now_ports ⊎ Unserved asked ports now_ports
