-- What is printed of a turn, and of an item of a stream: one line.
use Rattle.std.specs.Prelude.{ℕ, List, [], ◌∷◌, ◌++◌, Bool, true, false, codes}
use Rattle.std.specs.Fmt.{decimal}
use Rattle.house_model.specs.declared.reply.Reply.{Reply}
use Rattle.house_model.specs.declared.reply.Reply.TheVariants.{Opened, Done, Bound, Resumed, Frame, Nothing, Swept, Over, Absent, Unready, NoUser}
use Rattle.sm_resume.specs.declared.decision.Cause.{Cause}
use Rattle.sm_resume.specs.declared.decision.Cause.TheVariants.{Moved, Replaced, Overfull, TooHigh, Flood, Closed, Lost}
use Rattle.house_model.specs.Histories.{Outcome, Made, Short}
use Rattle.stanza_tree.specs.Spelling.{text}
use Rattle.stream_grammar.specs.declared.FrameFault.{FrameFault}
use Rattle.stream_grammar.specs.declared.FrameFault.TheVariants.{NotWellFormed, Restricted, BadPrefix, BadFormat, TooLong, TooDeep, TooManyAttrs, BadEncoding}
use Rattle.stream_grammar.specs.declared.item.Item.{Item}
use Rattle.stream_grammar.specs.declared.item.Item.TheVariants.{Header, Top, CloseTag, Broken}

-- these bytes and a line feed
abbrev pub line : List ℕ → List ℕ
line bytes = bytes ++ 10 ∷ []

abbrev pub frame_line : List ℕ → List ℕ
frame_line text = codes "frame " ++ line text

abbrev pub nothing_line : Bool → List ℕ
nothing_line true = line (codes "nothing due")
nothing_line false = line (codes "nothing")

abbrev pub cause_text : Cause → List ℕ
cause_text (Moved conn) = codes "moved " ++ decimal conn
cause_text (Replaced s) = codes "replaced " ++ decimal s
cause_text (Overfull kept queued) = codes "overfull " ++ (decimal kept ++ (codes " " ++ decimal queued))
cause_text (TooHigh h kept sent) = codes "toohigh " ++ (decimal h ++ (codes " " ++ (decimal kept ++ (codes " " ++ decimal sent))))
cause_text (Flood answers) = codes "flood " ++ decimal answers
cause_text Closed = codes "closed"
cause_text Lost = codes "lost"

abbrev pub print_of : Reply → List ℕ → List ℕ
print_of (Opened n) text = line (codes "opened " ++ decimal n)
print_of Done text = line (codes "done")
print_of Bound text = line (codes "bound")
print_of Frame text = frame_line text
print_of (Nothing due) text = nothing_line due
print_of Absent text = line (codes "absent")
print_of Unready text = line (codes "unready")
print_of NoUser text = line (codes "no user")
print_of Resumed text = line (codes "resumed")
print_of (Swept s) text = line (codes "swept " ++ decimal s)
print_of (Over cause) text = line (codes "over " ++ cause_text cause)

-- a turn without memory prints nothing
abbrev pub print_outcome : Outcome → List ℕ
print_outcome (Made reply text) = print_of reply text
print_outcome Short = []

-- Items of a stream.

abbrev pub fault_number : FrameFault → ℕ
fault_number NotWellFormed = 1
fault_number Restricted = 2
fault_number BadPrefix = 3
fault_number BadFormat = 4
fault_number TooLong = 5
fault_number TooDeep = 6
fault_number TooManyAttrs = 7
fault_number BadEncoding = 8

-- a top element is printed in its canonical spelling, and a fault by its number and the number of its byte
abbrev pub print_item : Item → List ℕ
print_item (Header root space) = line (codes "item header")
print_item (Top e) = line (codes "item top " ++ text e)
print_item CloseTag = line (codes "item close")
print_item (Broken fault offset) = codes "item broken " ++ (decimal (fault_number fault) ++ (codes " " ++ line (decimal offset)))
