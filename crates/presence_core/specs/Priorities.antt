-- The priority of a presence (RFC 6121, 4.7.2.3).
use Rattle.std.specs.Prelude.{ℕ, nat_lt, nat_le, ◌==◌, ℤ, pos, neg_ℤ, Bool, false, ◌&&◌, List, [], ◌∷◌, length, codes, Option, Some, None, if◌then◌else◌}
use Rattle.std.specs.Char.{is_ascii_digit}
use Rattle.std.specs.List.{list_all}
use Rattle.std.specs.Str.Parse.{digits_value}
use Rattle.stanza_tree.specs.Children.{child_of, words_of}
use Rattle.stanza_tree.specs.Spelling.{client_space}
use Rattle.stanza_tree.specs.declared.node.Element.{Element}

-- one or more decimal digits, zeros in front allowed, of a value up to this
abbrev pub is_number : ℕ → List ℕ → Bool
is_number most digits = nat_lt 0 (length digits) && list_all is_ascii_digit digits && nat_le (digits_value 10 digits) most

abbrev pub not_negative : List ℕ → Option ℤ
not_negative digits = if is_number 127 digits then Some (pos (digits_value 10 digits)) else None

-- what stands after a `-`
abbrev pub negative : List ℕ → Option ℤ
negative digits = if is_number 128 digits then Some (neg_ℤ (pos (digits_value 10 digits))) else None

-- RFC 6121, 4.7.2.3: an integer from -128 to 127, written without a `+`
abbrev pub priority_of : List ℕ → Option ℤ
priority_of [] = None
priority_of (b ∷ more) = if b == 45 then negative more else not_negative (b ∷ more)

-- `parse` reads a `+` too
abbrev pub has_plus : List ℕ → Bool
has_plus [] = false
has_plus (b ∷ more) = b == 43

-- RFC 6121, 4.7.2.3: without the child it is 0
abbrev pub priority_by : Option Element → Option ℤ
priority_by None = Some (pos 0)
priority_by (Some child) = priority_of (words_of child.children)

-- the words of the child, if they are a priority
abbrev pub priority_in : Element → Option ℤ
priority_in e = priority_by (child_of client_space (codes "priority") e.children)
