-- What an element of stream management says (XEP-0198).
use Rattle.std.specs.Prelude.{ℕ, ◌^◌, nat_lt, Bool, false, ◌&&◌, ◌||◌, List, length, codes, bytes_eq, Option, Some, None, if◌then◌else◌}
use Rattle.std.specs.Char.{is_ascii_digit}
use Rattle.std.specs.List.{list_all}
use Rattle.std.specs.Option.{option_and_then}
use Rattle.std.specs.Str.Parse.{digits_value}
use Rattle.stanza_tree.specs.Attributes.{attr_of}
use Rattle.stanza_tree.specs.declared.node.Attr.{Attr}
use Rattle.stanza_tree.specs.declared.node.Element.{Element}
use Rattle.stanza_model.specs.declared.nonza.Nonza.{Nonza}
use Rattle.stanza_model.specs.declared.nonza.Nonza.TheVariants.{Enable, Resume, Ask, Counted, Garbled}

-- XEP-0198, 2: the namespace of stream management
abbrev pub management_space : List ℕ
management_space = codes "urn:xmpp:sm:3"

-- XML Schema Part 2, 3.2.2: a boolean is true where it is `true` or `1`
abbrev pub is_true : Option (List ℕ) → Bool
is_true None = false
is_true (Some value) = bytes_eq value (codes "true") || bytes_eq value (codes "1")

-- XML Schema Part 2, 3.3.22: one or more decimal digits, of a value below 2^32
abbrev pub is_count : List ℕ → Bool
is_count text = nat_lt 0 (length text) && list_all is_ascii_digit text && nat_lt (digits_value 10 text) (2 ^ 32)

abbrev pub count_of : List ℕ → Option ℕ
count_of text = if is_count text then Some (digits_value 10 text) else None

-- what the attribute `h` counts, where there is one and it is such a number
abbrev pub count_in : List Attr → Option ℕ
count_in attrs = option_and_then count_of (attr_of (codes "h") attrs)

-- XEP-0198, 4: `a` needs an `h`
abbrev pub counted : Option ℕ → Nonza
counted (Some h) = Counted h
counted None = Garbled

-- XEP-0198, 5: `resume` needs a `previd` and an `h`
abbrev pub resumption : Option (List ℕ) → Option ℕ → Nonza
resumption (Some previd) (Some h) = Resume previd h
resumption (Some previd) None = Garbled
resumption None h = Garbled

-- XEP-0198, 3 to 5: an element of that namespace, by its name
abbrev pub nonza_named : List ℕ → List Attr → Option Nonza
nonza_named local attrs =
    if bytes_eq local (codes "enable") then Some (Enable (is_true (attr_of (codes "resume") attrs)))
    else if bytes_eq local (codes "resume") then Some (resumption (attr_of (codes "previd") attrs) (count_in attrs))
    else if bytes_eq local (codes "r") then Some Ask
    else if bytes_eq local (codes "a") then Some (counted (count_in attrs))
    else None

-- the nonza that an element is
abbrev pub nonza_of : Element → Option Nonza
nonza_of e = if bytes_eq e.name.space management_space then nonza_named e.name.local e.attrs else None
