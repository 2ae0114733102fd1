-- What each line of a script is. Its fields are separated by one space.
use Rattle.std.specs.Prelude.{◌≡◌, ◌≤◌, ⊤, ℕ, ◌==◌, nat_lt, nat_le, Bool, true, false, not, ◌&&◌, List, length}
use Rattle.std.specs.Prelude.{codes, bytes_eq, Option, Some, None, Result, Ok, Err, is_some, if◌then◌else◌}
use Rattle.std.specs.List.{slice_split, list_all, list_any}
use Rattle.jid_core.specs.Names.{are_distinct}
use Rattle.jid_core.specs.Addresses.{Address, address_of}
use Rattle.jid_core.specs.Preparation.{is_local, local_of, resource_of}
use Rattle.jid_core.specs.declared.fault.JidFault.{JidFault}
use Rattle.house_model.specs.declared.event.Event.{Event}
use Rattle.house_model.specs.declared.event.Event.TheVariants.{OpenLine, Login, Bind, Enable, Resume, Act, Ack, Ask, Pull, DropLine, CloseLine, Sweep}
use Rattle.house_model.specs.Histories.{Meets}
use Rattle.replay_script.specs.declared.step.Step.{Step}
use Rattle.replay_script.specs.declared.step.Step.TheVariants as step
use Rattle.replay_script.specs.Characters.{is_token}
use Rattle.replay_script.specs.Notices.{notice_of}
use Rattle.sm_resume.specs.Spelling.{number_of}
use Rattle.replay_script.specs.Numbers.{line_number_of, count_in, dice_of, id_spelt, bytes_of}
use Rattle.replay_script.specs.Readings.{on, cut}
use Rattle.replay_script.specs.Stanzas.{stanza_in}

-- `open W`
abbrev pub open_of : List ℕ → Option Event
open_of text = on (line_number_of text) (λ w. Some (OpenLine w))

-- `pull W T`
abbrev pub pull_of : List ℕ → Option Event
pull_of text = cut text (λ w t. on (line_number_of w) (λ w. on (number_of t) (λ t. Some (Pull w t))))

-- USER: a local part that preparation leaves as it is, without a comma
abbrev pub same : List ℕ → Result (List ℕ) JidFault → Option (List ℕ)
same text (Ok part) = if bytes_eq part text && not (list_any (λ b. b == 44) text) then Some part else None
same text (Err fault) = None

abbrev pub user_of : List ℕ → Option (List ℕ)
user_of text = same text (local_of text)

-- `login W USER`
abbrev pub login_of : List ℕ → Option Event
login_of text = cut text (λ w user. on (line_number_of w) (λ w. on (user_of user) (λ user. Some (Login w user))))

-- ID: a token of at most 65,536 bytes
abbrev pub id_of : List ℕ → Option (List ℕ)
id_of text = if nat_le (length text) 65536 && is_token text then Some text else None

-- RESOURCE: `*` for none, or a token that is read as a resource
abbrev pub prepared : Result (List ℕ) JidFault → Option (Option (List ℕ))
prepared (Ok part) = Some (Some part)
prepared (Err fault) = None

abbrev pub resource_in : List ℕ → Option (Option (List ℕ))
resource_in text = if bytes_eq text (codes "*") then Some None else if is_token text then prepared (resource_of text) else None

-- `bind W T DICE ID RESOURCE`
abbrev pub bind_of : List ℕ → Option Event
bind_of text =
    cut text (λ w rest. on (line_number_of w) (λ w.
    cut rest (λ t rest. on (number_of t) (λ t.
    cut rest (λ dice rest. on (dice_of dice) (λ dice.
    cut rest (λ id resource. on (id_of id) (λ id. on (resource_in resource) (λ resource. Some (Bind w id resource t dice))))))))))

-- `note W T ADDRESS WORDS`
abbrev pub note_of : List ℕ → Option Event
note_of text =
    cut text (λ w rest. on (line_number_of w) (λ w.
    cut rest (λ t rest. on (number_of t) (λ t.
    cut rest (λ address words. on (notice_of address words) (λ stanza. Some (Act w stanza t)))))))

-- `enable W yes DICE`, `enable W no DICE`
abbrev pub yes_of : List ℕ → Option Bool
yes_of text = if bytes_eq text (codes "yes") then Some true else if bytes_eq text (codes "no") then Some false else None

abbrev pub enable_of : List ℕ → Option Event
enable_of text =
    cut text (λ w rest. on (line_number_of w) (λ w.
    cut rest (λ wants dice. on (yes_of wants) (λ wants. on (dice_of dice) (λ dice. Some (Enable w wants dice))))))

-- `resume W T H TOKEN`: a token that spells no id is taken for none
abbrev pub resume_of : List ℕ → Option Event
resume_of text =
    cut text (λ w rest. on (line_number_of w) (λ w.
    cut rest (λ t rest. on (number_of t) (λ t.
    cut rest (λ h token. on (count_in h) (λ h. if is_token token then Some (Resume w (id_spelt token) h t) else None))))))

-- `ack W H`
abbrev pub ack_of : List ℕ → Option Event
ack_of text = cut text (λ w h. on (line_number_of w) (λ w. on (count_in h) (λ h. Some (Ack w h))))

-- `ask W`
abbrev pub ask_of : List ℕ → Option Event
ask_of text = on (line_number_of text) (λ w. Some (Ask w))

-- `drop W T`, `close W T`, `sweep W T`
abbrev pub goes_by : List ℕ → ℕ → ℕ → Option Event
goes_by word w t =
    if bytes_eq word (codes "drop") then Some (DropLine w t)
    else if bytes_eq word (codes "close") then Some (CloseLine w t)
    else if bytes_eq word (codes "sweep") then Some (Sweep w t)
    else None

abbrev pub going_by : List ℕ → List ℕ → Option Event
going_by word text = cut text (λ w t. on (line_number_of w) (λ w. on (number_of t) (λ t. goes_by word w t)))

-- a line of stream management (XEP-0198), or of a connection that goes, by its word
abbrev pub counting_by : List ℕ → List ℕ → Option Event
counting_by word rest =
    if bytes_eq word (codes "enable") then enable_of rest
    else if bytes_eq word (codes "resume") then resume_of rest
    else if bytes_eq word (codes "ack") then ack_of rest
    else if bytes_eq word (codes "ask") then ask_of rest
    else going_by word rest

-- the event of a line, by its word
abbrev pub event_by : List ℕ → List ℕ → Option Event
event_by word rest =
    if bytes_eq word (codes "open") then open_of rest
    else if bytes_eq word (codes "pull") then pull_of rest
    else if bytes_eq word (codes "login") then login_of rest
    else if bytes_eq word (codes "bind") then bind_of rest
    else if bytes_eq word (codes "note") then note_of rest
    else counting_by word rest

-- DOMAIN: an address that is a prepared domain alone, as it is written, of at most 1,017 bytes
abbrev pub whole : List ℕ → Address → Option Address
whole text a = if bytes_eq a.domain text && not (is_some a.local) && not (is_some a.resource) then Some a else None

abbrev pub read_whole : List ℕ → Result Address JidFault → Option Address
read_whole text (Ok a) = whole text a
read_whole text (Err fault) = None

abbrev pub domain_of : List ℕ → Option Address
domain_of text = if nat_le (length text) 1017 then read_whole text (address_of text) else None

abbrev pub is_user : List ℕ → Bool
is_user text = is_some (user_of text)

-- a user who is not among these
abbrev pub new_user : List (List ℕ) → List ℕ → Option (List ℕ)
new_user users text = if list_any (λ u. bytes_eq u text) users then None else user_of text

-- USER,USER: 1 to 4,096 different ones
abbrev pub are_users : List (List ℕ) → Bool
are_users users = nat_le (length users) 4096 && list_all is_user users && are_distinct users

abbrev pub users_of : List ℕ → Option (List (List ℕ))
users_of text = if are_users (slice_split (λ b. b == 44) text) then Some (slice_split (λ b. b == 44) text) else None

-- WORKERS: 1 to 1024
abbrev pub from_one : Option ℕ → Option ℕ
from_one None = None
from_one (Some n) = if nat_lt 0 n && nat_le n 1024 then Some n else None

abbrev pub workers_of : List ℕ → Option ℕ
workers_of text = from_one (number_of text)

-- `house DOMAIN USER,USER WORKERS`
abbrev pub house_of : List ℕ → Option Step
house_of text =
    cut text (λ domain rest. on (domain_of domain) (λ domain.
    cut rest (λ users workers. on (users_of users) (λ users. on (workers_of workers) (λ workers. Some (step.Begin domain users workers))))))

-- `feed W HEX`
abbrev pub feed_of : List ℕ → Option Step
feed_of text = cut text (λ w hex. on (line_number_of w) (λ w. on (bytes_of hex) (λ bytes. Some (step.Feed w bytes))))

-- `fresh W`
abbrev pub fresh_of : List ℕ → Option Step
fresh_of text = on (line_number_of text) (λ w. Some (step.Fresh w))

-- `stanza W T XML`
abbrev pub stanza_line_of : List ℕ → Option Step
stanza_line_of text =
    cut text (λ w rest. on (line_number_of w) (λ w.
    cut rest (λ t xml. on (number_of t) (λ t. on (stanza_in xml) (λ stanza. Some (step.Event (Act w stanza t)))))))

-- a line by its word
abbrev pub step_by : List ℕ → List ℕ → Option Step
step_by word rest =
    if bytes_eq word (codes "house") then house_of rest
    else if bytes_eq word (codes "feed") then feed_of rest
    else if bytes_eq word (codes "fresh") then fresh_of rest
    else if bytes_eq word (codes "stanza") then stanza_line_of rest
    else on (event_by word rest) (λ e. Some (step.Event e))

-- a line of a script, without its line feed
abbrev pub step_of : List ℕ → Option Step
step_of line = cut line step_by

-- what House::new and the events of a step ask of them holds
abbrev pub StepFits : Step → Type 0
StepFits (step.Begin domain users workers) = (list_all is_local users ≡ true) × (are_distinct users ≡ true) × (length users ≤ 4096)
StepFits (step.Event e) = Meets e
StepFits (step.Feed w bytes) = ⊤
StepFits (step.Fresh w) = ⊤
