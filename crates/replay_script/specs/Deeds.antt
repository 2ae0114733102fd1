-- What lines do after the first, and what is printed of it.
use Rattle.std.specs.Prelude.{◌≡◌, ℕ, ◌<◌, ⊤, ◌==◌, List, [], ◌∷◌, ◌++◌, Option, Some, flat_map, option_to_list, if◌then◌else◌}
use Rattle.house_model.specs.Histories.{Outcome, Made, Short, Turn, after}
use Rattle.house_model.specs.States.{State}
use Rattle.stream_grammar.specs.declared.item.Item.{Item}
use Rattle.stream_grammar.specs.machine.Reading.{Reading, reads, stopped, first_reading, reading_next, handed, waiting, went}
use Rattle.replay_script.specs.declared.step.Step.{Step}
use Rattle.replay_script.specs.declared.step.Step.TheVariants as step
use Rattle.replay_script.specs.Prints.{print_item, print_outcome}
use Rattle.stream_frames.specs.Limits.{limits}
use Rattle.stream_laws.specs.ItemLists.{AreNext}

-- a turn of the house, bytes fed to the framer of a connection's place, or that framer begun again
pub data Deed : Type 0 where
  Turned : Turn → Deed
  Fed : ℕ → List ℕ → Deed
  Renewed : ℕ → Deed

-- the step that a line has for it
abbrev pub step_at : Deed → Option Step
step_at (Turned x) = Some (step.Event x.event)
step_at (Fed w bytes) = Some (step.Feed w bytes)
step_at (Renewed w) = Some (step.Fresh w)

-- the turns among them
abbrev pub turn_in : Deed → List Turn
turn_in (Turned x) = x ∷ []
turn_in (Fed w bytes) = []
turn_in (Renewed w) = []

abbrev pub turns_of : List Deed → List Turn
turns_of ds = flat_map turn_in ds

-- A deed was done in this state: the house answered, and memory was not wanting; or the place was there.
abbrev pub IsMade : Outcome → Type 0
IsMade (Made reply text) = ⊤
IsMade Short = ⊥

abbrev pub IsDone : State → Deed → Type 0
IsDone st (Turned x) = IsMade x.outcome
IsDone st (Fed w bytes) = w < st.head.workers
IsDone st (Renewed w) = w < st.head.workers

abbrev pub AreDone : State → List Deed → Type 0
AreDone st [] = ⊤
AreDone st (d ∷ ds) = IsDone st d × AreDone (after st (turn_in d)) ds

-- What is printed: the reply of a turn, and a line for each item that ends in bytes that were fed, and for their fault.

abbrev pub print_items : List Item → List ℕ
print_items is = flat_map print_item is

-- the bytes that were fed to the framer of each place since it was begun
abbrev pub Streams : Type 0
Streams = ℕ → List ℕ

abbrev pub no_streams : Streams
no_streams w = []

abbrev pub with_stream : ℕ → List ℕ → Streams → Streams
with_stream w bytes fed v = if v == w then bytes else fed v

abbrev pub streams_next : Streams → Deed → Streams
streams_next fed (Turned x) = fed
streams_next fed (Fed w bytes) = with_stream w (fed w ++ bytes) fed
streams_next fed (Renewed w) = with_stream w [] fed

abbrev pub IsPrint : Streams → Deed → List ℕ → Type 0
IsPrint fed (Turned x) out = out ≡ print_outcome x.outcome
IsPrint fed (Fed w bytes) out = (items : List Item) × AreNext limits (fed w) bytes items × (out ≡ print_items items)
IsPrint fed (Renewed w) out = out ≡ []

-- the prints of deeds, one after the other
abbrev pub ArePrints : Streams → List Deed → List ℕ → Type 0
ArePrints fed [] out = out ≡ []
ArePrints fed (d ∷ ds) out =
    (first : List ℕ) × (later : List ℕ) × IsPrint fed d first × ArePrints (streams_next fed d) ds later × (out ≡ first ++ later)

-- The same as a text: `prints_are_those_of_the_grammar` shows that deeds have these prints, and no others. It is told byte by byte.

-- where the framer of each place stands; it is made when it is first fed
abbrev pub Framers : Type 0
Framers = ℕ → Reading

abbrev pub no_framers : Framers
no_framers w = first_reading

abbrev pub with_framer : ℕ → Reading → Framers → Framers
with_framer w s fs v = if v == w then s else fs v

abbrev pub framers_next : Framers → Deed → Framers
framers_next fs (Turned x) = fs
framers_next fs (Fed w bytes) = with_framer w (handed (went limits (fs w) bytes)) fs
framers_next fs (Renewed w) = with_framer w first_reading fs

abbrev pub framers_after : Framers → List Deed → Framers
framers_after fs [] = fs
framers_after fs (d ∷ ds) = framers_after (framers_next fs d) ds

-- the item or the fault that a byte brings
abbrev pub item_in : Reading → Reading → List Item
item_in (stopped f k) after = []
item_in (reads f b n k) after = option_to_list (waiting after)

-- the items that end in bytes, each handed out before the next byte
abbrev pub items_of : Reading → List ℕ → List Item
items_of s [] = []
items_of s (b ∷ bs) = item_in s (reading_next limits s b) ++ items_of (handed (reading_next limits s b)) bs

abbrev pub print_deed : Framers → Deed → List ℕ
print_deed fs (Turned x) = print_outcome x.outcome
print_deed fs (Fed w bytes) = print_items (items_of (fs w) bytes)
print_deed fs (Renewed w) = []

abbrev pub prints_from : Framers → List Deed → List ℕ
prints_from fs [] = []
prints_from fs (d ∷ ds) = print_deed fs d ++ prints_from (framers_next fs d) ds

abbrev pub prints : List Deed → List ℕ
prints ds = prints_from no_framers ds
