-- The preparation of the parts of an address (RFC 7622, section 3).
use Rattle.std.specs.Prelude.{ℕ, ◌+◌, ◌-◌, ◌==◌, nat_lt, Bool, false, not, ◌&&◌, ◌||◌, List, [], ◌∷◌, length, slice_index, take, bytes_eq}
use Rattle.std.specs.Prelude.{chars, encode_utf8_all, Option, Some, None, Result, Ok, Err, ⊤, ◌≡◌, if◌then◌else◌}
use Rattle.std.specs.Char.{is_control, len_utf8}
use Rattle.std.specs.Int.{is_in_range}
use Rattle.std.specs.List.{list_all}
use Rattle.std.specs.Option.{option_or, option_and_then}
use Rattle.std.specs.Str.{str_to_ascii_lowercase, is_utf8}
use Rattle.std.specs.Str.Lossy.{utf8_valid_len}
use Rattle.unicode_normalization.specs.Forms.{nfc, is_nfc}
use Rattle.idna.specs.declared.deny_list.TheConstants.AsciiDenyList.{STD3}
use Rattle.idna.specs.declared.options.Hyphens.TheVariants.{Check}
use Rattle.idna.specs.declared.options.DnsLength.TheVariants.{Ignore}
use Rattle.idna.specs.Labels.{labels_of}
use Rattle.idna.specs.Uts46.{to_ascii, if_passes}
use Rattle.jid_core.specs.declared.fault.Which.{Which}
use Rattle.jid_core.specs.declared.fault.Which.TheVariants.{Local, Domain, Resource}
use Rattle.jid_core.specs.declared.fault.JidFault.{JidFault}
use Rattle.jid_core.specs.declared.fault.JidFault.TheVariants.{NoMemory, Empty, Long, Bad}

-- ---- what is refused

-- RFC 7622, 3.3.1: a space and `" & ' / : < > @`
abbrev pub is_excluded : ℕ → Bool
is_excluded c = (c == 32) || (c == 34) || (c == 38) || (c == 39) || (c == 47) || (c == 58) || (c == 60) || (c == 62) || (c == 64)

-- the characters that a part may not have: control characters (general category Cc), and in a local part the excluded ones
abbrev pub is_refused : Which → ℕ → Bool
is_refused Local c = is_control c || is_excluded c
is_refused _ c = is_control c

-- how many bytes the characters before the first refused one have in UTF-8
abbrev pub fit_len : (ℕ → Bool) → List ℕ → ℕ
fit_len refused [] = 0
fit_len refused (c ∷ cs) = if refused c then 0 else len_utf8 c + fit_len refused cs

-- the characters of the longest front that is UTF-8 (RFC 3629)
abbrev pub front_chars : List ℕ → List ℕ
front_chars bytes = chars (take (utf8_valid_len bytes) bytes)

-- the place, unless it is where the bytes end
abbrev pub unless_all : ℕ → List ℕ → Option ℕ
unless_all place bytes = if place == length bytes then None else Some place

-- the place of the first byte that begins no character that the part may have
abbrev pub refused_at : Which → List ℕ → Option ℕ
refused_at which bytes = unless_all (fit_len (is_refused which) (front_chars bytes)) bytes

-- ---- prepared parts

-- 1 to 1023 bytes (RFC 7622, 3.2 to 3.4)
abbrev pub has_size : List ℕ → Bool
has_size bytes = nat_lt 0 (length bytes) && nat_lt (length bytes) 1024

-- UTF-8 of characters that the part may have
abbrev pub is_fit : Which → List ℕ → Bool
is_fit which bytes = is_utf8 bytes && list_all (λ c. not (is_refused which c)) (chars bytes)

-- a prepared resource: in Normalization Form C
unfoldable pub is_resource : List ℕ → Bool
is_resource bytes = has_size bytes && is_fit Resource bytes && is_nfc (chars bytes)

-- a prepared local part: without capital letters of ASCII, in Normalization Form C
unfoldable pub is_local : List ℕ → Bool
is_local bytes = has_size bytes && is_fit Local bytes && bytes_eq (str_to_ascii_lowercase bytes) bytes && is_nfc (chars bytes)

-- RFC 1035, 2.3.4: each label of the name has 1 to 63 bytes
abbrev pub has_labels : List ℕ → Bool
has_labels name = list_all (λ label. is_in_range 1 63 (length label)) (labels_of name)

-- UTS 46, 4.2, ToASCII, with the characters of STD3 and no hyphens but inside of labels
abbrev pub ascii_form : List ℕ → Option (List ℕ)
ascii_form name = to_ascii STD3 Check Ignore name

abbrev pub gives : Option (List ℕ) → List ℕ → Bool
gives None name = false
gives (Some other) name = bytes_eq other name

-- a prepared domain: labels in ASCII, which ToASCII leaves as they are
unfoldable pub is_domain : List ℕ → Bool
is_domain name = has_size name && has_labels name && gives (ascii_form name) name

-- ---- the preparation

-- a part, where a byte at this place was refused, or none: then it may still be too long
abbrev pub unless_long : Which → List ℕ → Result (List ℕ) JidFault
unless_long which bytes = if nat_lt 1023 (length bytes) then Err (Long which) else Ok bytes

abbrev pub unless_bad : Which → Option ℕ → List ℕ → Result (List ℕ) JidFault
unless_bad which None bytes = unless_long which bytes
unless_bad which (Some place) bytes = Err (Bad which place)

-- a text (UTF-8) that is not in Normalization Form C is refused at 0
abbrev pub unless_nfc : List ℕ → Option ℕ
unless_nfc bytes = if is_utf8 bytes && not (is_nfc (chars bytes)) then Some 0 else None

-- RFC 7622, 3.3: the letters of ASCII are lowered, and what comes of that is in Normalization Form C
abbrev pub local_of : List ℕ → Result (List ℕ) JidFault
local_of [] = Err (Empty Local)
local_of (b ∷ more) =
    unless_bad Local (option_or (unless_nfc (str_to_ascii_lowercase (b ∷ more))) (refused_at Local (b ∷ more))) (str_to_ascii_lowercase (b ∷ more))

-- the text in Normalization Form C
abbrev pub in_nfc : List ℕ → List ℕ
in_nfc bytes = encode_utf8_all (nfc (chars bytes))

-- RFC 7622, 3.4: the part is brought to Normalization Form C
abbrev pub resource_of : List ℕ → Result (List ℕ) JidFault
resource_of [] = Err (Empty Resource)
resource_of (b ∷ more) = unless_bad Resource (refused_at Resource (b ∷ more)) (in_nfc (b ∷ more))

-- RFC 7622, 3.2: a final dot as it was given, U+002E, is no part of the domain
abbrev pub without_final_dot : List ℕ → List ℕ
without_final_dot bytes = if slice_index bytes (length bytes - 1) == 46 then take (length bytes - 1) bytes else bytes

-- what ToASCII gives, where that is labels
abbrev pub in_labels : List ℕ → Option (List ℕ)
in_labels name = option_and_then (if_passes has_labels) (ascii_form name)

-- a name that is none is refused as a whole
abbrev pub unless_none : Option (List ℕ) → Result (List ℕ) JidFault
unless_none None = Err (Bad Domain 0)
unless_none (Some name) = unless_long Domain name

-- RFC 7622, 3.2.1: internationalized labels are prepared by ToASCII
abbrev pub domain_of : List ℕ → Result (List ℕ) JidFault
domain_of [] = Err (Empty Domain)
domain_of (b ∷ more) = unless_none (in_labels (without_final_dot (b ∷ more)))

-- a fault is the one that reading has. Want of memory has no cause here.
abbrev pub IsCause : {A : Type 0} → Result A JidFault → JidFault → Type 0
IsCause read NoMemory = ⊤
IsCause read (Empty which) = read ≡ Err (Empty which)
IsCause read (Long which) = read ≡ Err (Long which)
IsCause read (Bad which place) = read ≡ Err (Bad which place)
