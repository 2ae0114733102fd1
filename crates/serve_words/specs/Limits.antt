-- How many connections are served at once, by the number of sessions.
use Rattle.std.specs.Prelude.{ℕ, ◌*◌, ◌/◌, min, nat_le, if◌then◌else◌}

-- one worker may serve so many
abbrev pub most_links : (sessions : ℕ) → ℕ
most_links sessions = if nat_le sessions 512 then 256 else 16384

-- and all workers together so many
abbrev pub most_places : (sessions : ℕ) → ℕ
most_places sessions = if nat_le sessions 512 then 1024 else 16384

-- where it isn't said, all workers together serve so many: as many as they may, or two for each session where that is less
abbrev pub usual_places : (sessions : ℕ) → ℕ
usual_places sessions = if nat_le sessions 512 then 1024 else min (2 * sessions) 16384

-- and one worker its part of them, if it may
abbrev pub usual_links : (sessions workers : ℕ) → ℕ
usual_links sessions workers = min (most_links sessions) (usual_places sessions / workers)
