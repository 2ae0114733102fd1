-- Sessions as the rules on stanzas see them, and those that an address names.
use Rattle.std.specs.Prelude.{ℕ, not, List, [], ◌∷◌, ◌++◌, Bool, Option, Some, None, is_some, if◌then◌else◌}
use Rattle.std.specs.List.{list_any}
use Rattle.jid_core.specs.Addresses.{Address, same_part}
use Rattle.stanza_model.specs.declared.here.Here.{Here}
use Rattle.session_table.specs.Sessions.{SessionRecord}
use Rattle.house_model.specs.Presences.{names}

-- a session of this number as the rules on stanzas see it
abbrev pub here_from : ℕ → SessionRecord → Here
here_from n x = record {
  session = n;
  address = x.address;
  available = is_some x.presence;
  priority = x.priority;
  wants_roster = x.wants_roster;
  pushes = x.pushes;
}

-- the session of a number, where it is there
abbrev pub here_in : ℕ → Option SessionRecord → List Here
here_in n None = []
here_in n (Some x) = here_from n x ∷ []

-- whether an address names a session, and whether one of several does
abbrev pub is_named_by : Address → SessionRecord → Bool
is_named_by address x = names (here_from 0 x) address

abbrev pub is_named : List Address → SessionRecord → Bool
is_named addresses x = list_any (λ a. is_named_by a x) addresses

-- the numbers of the sessions that pass a test
abbrev pub numbers_by : (SessionRecord → Bool) → List (ℕ × SessionRecord) → List ℕ
numbers_by test [] = []
numbers_by test (e ∷ more) = (if test e.1 then e.0 ∷ [] else []) ++ numbers_by test more

-- a session of another resource
abbrev pub is_elsewhere : List ℕ → Here → Bool
is_elsewhere resource h = not (same_part h.address.resource (Some resource))
