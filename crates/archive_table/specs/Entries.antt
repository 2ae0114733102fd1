-- The entries of the maps, as contracts see them.
use Rattle.std.specs.Prelude.{ℕ, List, map}
use Rattle.std.specs.declared.alloc.Global.{Global}
use Rattle.std.specs.declared.vec.Vec.{Vec}
use Rattle.mam_archive.specs.Archives.{Archive}
use Rattle.archive_table.specs.Tables.{RoomArchive, UserArchive}

abbrev pub users_of : List (Vec ℕ Global × Archive) → List UserArchive
users_of es = map (λ e. record { user = e.0.items; archive = e.1 }) es

abbrev pub rooms_of : List (ℕ × Archive) → List RoomArchive
rooms_of es = map (λ e. record { room = e.0; archive = e.1 }) es
