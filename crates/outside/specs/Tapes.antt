-- What the outside tells: tapes, and what else memory forms keep.
use Rattle.std.specs.Prelude.{◌≡◌, ℕ, ◌+◌, ◌-◌, nat_lt, nat_le, ◌&&◌, Bool, true, false, List, [], ◌∷◌, ◌++◌, length, take, drop, Option, Some, None}
use Rattle.outside.specs.declared.tape.Kind.{Kind}
use Rattle.outside.specs.declared.tape.Kind.TheVariants as kind

-- a mark of a tape
pub data Mark : Type 0 where
  Heard : (bytes : List ℕ) → Mark
  Quiet : Mark
  End : Mark
  Failed : Mark
  Said : (bytes : List ℕ) → Mark

-- where so much is told now, as much was told before, and these came last
abbrev pub Tells : (A : Type 0) → Option (List A) → Option (List A) → List A → Type 0
Tells A old None more = Unit {0}
Tells A None (Some now) more = ⊥
Tells A (Some old) (Some now) more = now ≡ old ++ more

-- one more at the end, where it is told
abbrev pub and_last : (A : Type 0) → Option (List A) → A → Option (List A)
and_last A None x = None
and_last A (Some xs) x = Some (xs ++ x ∷ [])

abbrev pub told_where : (A : Type 0) → Bool → List A → Option (List A)
told_where A true xs = Some xs
told_where A false xs = None

-- what is shown of what is told
abbrev pub shown : (A : Type 0) → Option (List A) → List A
shown A None = []
shown A (Some xs) = xs

-- how many bytes a mark of this kind has
abbrev pub size : Kind → ℕ
size (kind.Heard n) = n
size kind.Quiet = 0
size kind.End = 0
size kind.Failed = 0
size (kind.Said n) = n

abbrev pub sizes : List Kind → ℕ
sizes [] = 0
sizes (k ∷ ks) = size k + sizes ks

abbrev pub mark_of : Kind → List ℕ → Mark
mark_of (kind.Heard n) bytes = Heard bytes
mark_of kind.Quiet bytes = Quiet
mark_of kind.End bytes = End
mark_of kind.Failed bytes = Failed
mark_of (kind.Said n) bytes = Said bytes

abbrev pub kind_of : Mark → Kind
kind_of (Heard bytes) = kind.Heard (length bytes)
kind_of Quiet = kind.Quiet
kind_of End = kind.End
kind_of Failed = kind.Failed
kind_of (Said bytes) = kind.Said (length bytes)

abbrev pub bytes_of : Mark → List ℕ
bytes_of (Heard bytes) = bytes
bytes_of Quiet = []
bytes_of End = []
bytes_of Failed = []
bytes_of (Said bytes) = bytes

-- the bytes of all marks, one after the other
abbrev pub all_bytes : List Mark → List ℕ
all_bytes [] = []
all_bytes (m ∷ ms) = bytes_of m ++ all_bytes ms

-- the marks of these kinds, whose bytes stand one after the other
abbrev pub marks : List Kind → List ℕ → List Mark
marks [] bytes = []
marks (k ∷ ks) bytes = mark_of k (take (size k) bytes) ∷ marks ks (drop (size k) bytes)

-- a tape in memory: its marks, where it tells them, and the room for more marks and more bytes
pub record Tape : Type 0 where
  pub told : Option (List Mark)
  pub calls : ℕ
  pub bytes : ℕ

-- the marks that a tape tells
abbrev pub marks_told : Tape → List Mark
marks_told t = shown Mark t.told

-- whether there is room for one more mark of so many bytes
abbrev pub has_room : Tape → ℕ → Bool
has_room t n = nat_lt 0 t.calls && nat_le n t.bytes

-- from now on nothing is told
abbrev pub silent : Tape → Tape
silent t = record t { told = None }

abbrev pub noted_by : Bool → Tape → Mark → ℕ → Tape
noted_by true t m n = record t { told = and_last Mark t.told m; calls = t.calls - 1; bytes = t.bytes - n }
noted_by false t m n = silent t

-- with one more mark, of so many bytes
abbrev pub noted : Tape → Mark → ℕ → Tape
noted t m n = noted_by (has_room t n) t m n
