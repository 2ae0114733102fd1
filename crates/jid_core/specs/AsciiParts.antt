-- Parts in ASCII, which are prepared without a look at Unicode's tables.
use Rattle.std.specs.Prelude.{ℕ, ◌-◌, ◌==◌, nat_lt, nat_le, Bool, not, ◌&&◌, ◌||◌, List, length, slice_index}
use Rattle.std.specs.Char.{is_ascii_alphanumeric}
use Rattle.std.specs.List.{list_all, slice_split}
use Rattle.jid_core.specs.Preparation.{is_excluded}

-- a printable character of ASCII
abbrev pub is_resource_byte : ℕ → Bool
is_resource_byte b = nat_le 32 b && nat_lt b 127

abbrev pub is_local_byte : ℕ → Bool
is_local_byte b = is_resource_byte b && not (is_excluded b)

-- RFC 5890, 2.3.1: a letter, a digit or a hyphen
abbrev pub is_label_byte : ℕ → Bool
is_label_byte b = is_ascii_alphanumeric b || (b == 45)

-- RFC 5891, 4.2.3.1: a hyphen stands neither first nor last, nor at both the third and the fourth place
abbrev pub has_stray_hyphen : List ℕ → Bool
has_stray_hyphen label =
    (slice_index label 0 == 45) || (slice_index label (length label - 1) == 45) || ((slice_index label 2 == 45) && (slice_index label 3 == 45))

-- RFC 1035, 2.3.4: 1 to 63 of these
abbrev pub is_label : List ℕ → Bool
is_label label = nat_lt 0 (length label) && nat_lt (length label) 64 && list_all is_label_byte label && not (has_stray_hyphen label)

-- labels joined by dots
abbrev pub are_labels : List ℕ → Bool
are_labels bytes = list_all is_label (slice_split (λ b. b == 46) bytes)
