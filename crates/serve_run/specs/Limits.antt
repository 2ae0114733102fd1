-- What the number of sessions decides: where a house may have more of them than the usual 512, a list of accounts may be longer.
use Rattle.std.specs.Prelude.{ℕ, nat_le, if◌then◌else◌}
use Rattle.house_model.specs.States.{usual}
use Rattle.house_model.specs.declared.limits.Limits.{Limits}

-- how many accounts a list may have
abbrev pub most_lines : (sessions : ℕ) → ℕ
most_lines sessions = if nat_le sessions 512 then 4096 else 65536

-- how many bytes it may have
abbrev pub most_list : (sessions : ℕ) → ℕ
most_list sessions = if nat_le sessions 512 then 8388608 else 33554432

-- how many sessions the house may have: so many in all, and of one user as many as usual
abbrev pub limits : (sessions : ℕ) → Limits
limits sessions = record usual { sessions = sessions }
