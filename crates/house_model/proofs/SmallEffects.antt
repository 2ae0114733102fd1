-- Which effects are small, and that those of a session that leaves a room are.
use Rattle.std.proofs.Common.{ℕ, ◌≤◌, List, [], ◌∷◌, flat_map, length, arith}
use Rattle.std.proofs.Common.{Bool, true, false, Option, Some, None, IfSome}
use Rattle.std.specs.Prelude.{⊤}
use Rattle.std.specs.Fmt.{decimal}
use Rattle.std.specs.List.{AllByRecursion}
use Rattle.jid_core.specs.Addresses.{Address, address_text}
use Rattle.stanza_tree.specs.Spelling.{text}
use Rattle.stanza_tree.specs.declared.frame.Origin.{Origin}
use Rattle.stanza_tree.specs.declared.frame.Origin.TheVariants.{Direct}
use Rattle.stanza_tree.proofs.Bounds.{length-frame, length-value_text-le}
use Rattle.stanza_model.specs.declared.effect.Change.{Change}
use Rattle.stanza_model.specs.declared.effect.Change.TheVariants as change
use Rattle.stanza_model.specs.declared.effect.Effect.{Effect}
use Rattle.stanza_model.specs.declared.effect.Effect.TheVariants.{Queue, Broadcast, Enter, Leave, Keep, Set}
use Rattle.stanza_model.specs.declared.room.Occupant.{Occupant}
use Rattle.stanza_model.specs.declared.room.Room.{Room}
use Rattle.stanza_model.specs.declared.room.Seat.{Seat}
use Rattle.stanza_model.specs.declared.stanza.Stanza.{Stanza}
use Rattle.muc_room.specs.Entries.{entry_statuses}
use Rattle.muc_room.specs.Leaving.{farewell, leave, last_words, seat_address}
use Rattle.muc_room.specs.Seats.{address_by, seat_of, spoken_from}
use Rattle.muc_room.specs.Views.{seen}
use Rattle.muc_service.specs.Rooms.{Hosted}
use Rattle.house_model.specs.Fitting.{IsShortAddress, IsShortOccupant, IsShortRoom, IsSmall}
use Rattle.house_model.proofs.ConfigSizes.{IsShortConfig}
use Rattle.house_model.proofs.Founds.{append_all}
use Rattle.house_model.proofs.RoomCases.{found_all, leave_rows}
use Rattle.house_model.proofs.RosterSizes.{number-le}
use Rattle.house_model.proofs.ViewSizes.{AreCodes, IsShortItem, IsShortNick, seen-le}

-- what is small, and what is broadcast is short
abbrev pub SmallChange : Change → Type 0
SmallChange (change.Available s stanza priority) = length stanza ≤ 16384
SmallChange (change.RoomMade n address owner) = IsShortAddress address
SmallChange (change.Configured n config) = IsShortConfig config
SmallChange (change.Renamed n s nick) = IsShortNick nick
SmallChange (change.OccupantShown n s presence) = length presence ≤ 16384
SmallChange (change.Subject n text stamp) = (length text ≤ 300000) × (length stamp ≤ 24)
SmallChange (change.RoomRow n peer text moment) = length text ≤ 300000
SmallChange c = ⊤

abbrev pub Small : Effect → Type 0
Small (Queue s to rest origin) = IsSmall (Queue s to rest origin)
Small (Broadcast n item) = IsShortItem item
Small (Enter n s address nick role) = IsShortAddress address × IsShortNick nick
Small (Leave n s) = ⊤
Small (Keep user peer text moment) = length text ≤ 300000
Small (Set c) = SmallChange c

pub change_small : (c : Change) → SmallChange c → IsSmall (Set c)
change_small (change.Available s stanza priority) is = is
change_small (change.RoomRow n peer text moment) is = is
change_small c is = tt

pub small_is : (e : Effect) → Small e → IsSmall e
small_is (Queue s to rest origin) is = is
small_is (Broadcast n item) is = tt
small_is (Enter n s address nick role) is = tt
small_is (Leave n s) is = tt
small_is (Keep user peer text moment) is = is
small_is (Set c) is = change_small c is

-- what is set of rooms is short, whatever is queued, broadcast and kept
abbrev pub SlightChange : Change → Type 0
SlightChange (change.RoomRow n peer text moment) = ⊤
SlightChange c = SmallChange c

abbrev pub Slight : Effect → Type 0
Slight (Queue s to rest origin) = ⊤
Slight (Broadcast n item) = ⊤
Slight (Enter n s address nick role) = IsShortAddress address × IsShortNick nick
Slight (Leave n s) = ⊤
Slight (Keep user peer text moment) = ⊤
Slight (Set c) = SlightChange c

slight_change : (c : Change) → SmallChange c → SlightChange c
slight_change (change.RoomRow n peer text moment) is = tt
slight_change c is = is

slight_is : (e : Effect) → Small e → Slight e
slight_is (Queue s to rest origin) is = tt
slight_is (Broadcast n item) is = tt
slight_is (Enter n s address nick role) is = is
slight_is (Leave n s) is = tt
slight_is (Keep user peer text moment) is = tt
slight_is (Set c) is = slight_change c is

pub slight_all : (es : List Effect) → AllByRecursion Small es → AllByRecursion Slight es
slight_all [] all = tt
slight_all (e ∷ es) all = (slight_is e all.0, slight_all es all.1)

pub queued : (s : ℕ) (to : Address) (rest : List ℕ) (origin : Origin) → IsShortAddress to → length rest ≤ 500000 → Small (Queue s (address_text to) rest origin)
queued s to rest origin own few =
    omega (
      arith,
      own,
      few,
      length-frame (record { to = address_text to; rest = rest; origin = origin }),
      length-value_text-le (address_text to),
    )

abbrev pub R : Seat → Type 0
R x = IsShortAddress x.address

-- addresses of seats

pub by_short : (other : Address) (found : Option Seat) → IsShortAddress other → IfSome found R → IsShortAddress (address_by other found)
by_short other None host is = host
by_short other (Some x) host is = is

pub seat_short : (room : Room) (s : ℕ) (o : Occupant) → IsShortAddress room.address → IsShortOccupant o → IsShortAddress (seat_address room s o)
seat_short room s o host is = by_short room.address (seat_of s o.seats) host (found_all R _ o.seats is.seats)

pub spoken_short : (room : Address) (o : Occupant) → IsShortAddress room → IsShortOccupant o → IsShortAddress (spoken_from room o)
spoken_short room o host is = by_short room (seat_of o.spoke o.seats) host (found_all R _ o.seats is.seats)

-- status codes

pub code_short : (c : ℕ) → c ≤ 999 → length (decimal c) ≤ 20
code_short c few = number-le c (omega (arith, few))

pub own_code : AreCodes (110 ∷ [])
own_code = (code_short 110 (omega arith), tt)

pub entry_codes : (anyone made : Bool) → AreCodes (entry_statuses anyone made)
entry_codes true true = (code_short 100 (omega arith), (code_short 110 (omega arith), (code_short 170 (omega arith), (code_short 201 (omega arith), tt))))
entry_codes true false = (code_short 100 (omega arith), (code_short 110 (omega arith), (code_short 170 (omega arith), tt)))
entry_codes false true = (code_short 110 (omega arith), (code_short 170 (omega arith), (code_short 201 (omega arith), tt)))
entry_codes false false = (code_short 110 (omega arith), (code_short 170 (omega arith), tt))

pub entry_few : (anyone made : Bool) → length (entry_statuses anyone made) ≤ 8
entry_few true true = omega arith
entry_few true false = omega arith
entry_few false true = omega arith
entry_few false false = omega arith

-- who leaves

pub leave_small : (room : Room) (s : ℕ) (st : Option Stanza) → IsShortRoom room → length (last_words st) ≤ 16384 → AllByRecursion Small (leave room s st)
leave_small room s st short few = leave_rows room s st Small IsShortOccupant (record {
  item = λ o is. farewell_short o is;
  told = λ o is.
      queued s (seat_address room s o) (seen (farewell room s o (last_words st)) true room.address s (seat_address room s o)) Direct
      (seat_short room s o short.address is)
      (omega (
        arith,
        seen-le (farewell room s o (last_words st)) true room.address s (seat_address room s o) (farewell_short o is) short.address
            (seat_short room s o short.address is),
      ));
  left = tt;
  gone = tt;
}) short.occupants
  where
    farewell_short : (o : Occupant) → IsShortOccupant o → IsShortItem (farewell room s o (last_words st))
    farewell_short o is = (is.nick, seat_short room s o short.address is, tt, few, tt, own_code, omega arith, omega arith)

pub left_small : (s : ℕ) (st : Option Stanza) (hs : List Hosted) → length (last_words st) ≤ 16384 → AllByRecursion (λ h. IsShortRoom h.room) hs
    → AllByRecursion Small (flat_map (λ h. leave h.room s st) hs)
left_small s st [] few all = tt
left_small s st (h ∷ hs) few all = append_all Small (leave h.room s st) _ (leave_small h.room s st all.0 few) (left_small s st hs few all.1)
