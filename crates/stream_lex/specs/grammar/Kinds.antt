-- What a character is, for the grammar.
use Rattle.std.specs.Prelude.{ℕ, ◌==◌, ◌-◌, nat_lt, nat_le, ◌&&◌, ◌||◌, Bool, true, false, if◌then◌else◌}
use Rattle.stream_lex.specs.declared.kinds.Kind.{Kind}
use Rattle.stream_lex.specs.declared.kinds.Kind.TheVariants as kinds
use Rattle.stream_lex.specs.declared.stages.Quote.{Quote}
use Rattle.stream_lex.specs.declared.stages.Quote.TheVariants.{Double, Single}
use Rattle.stream_lex.specs.declared.stages.Base.{Base}
use Rattle.stream_lex.specs.declared.stages.Base.TheVariants.{Decimal, Hexadecimal}
use Rattle.stream_lex.specs.grammar.Classes.{has_between, characters, name_starts, name_characters}

-- of a character below 128
unfoldable pub ascii_kind : ℕ → Kind
ascii_kind b =
    if (b == 32) || ((b == 9) || ((b == 10) || (b == 13))) then kinds.Space
    else if b == 33 then kinds.Bang
    else if b == 34 then kinds.Quotation
    else if b == 35 then kinds.Number
    else if b == 38 then kinds.Ampersand
    else if b == 39 then kinds.Apostrophe
    else if b == 47 then kinds.Slash
    else if b == 58 then kinds.Colon
    else if b == 59 then kinds.Semicolon
    else if b == 60 then kinds.Less
    else if b == 61 then kinds.Equals
    else if b == 62 then kinds.Greater
    else if b == 63 then kinds.Question
    else if b == 91 then kinds.LeftBracket
    else if b == 93 then kinds.RightBracket
    else if b == 97 then kinds.SmallA
    else if b == 101 then kinds.SmallE
    else if b == 103 then kinds.SmallG
    else if b == 108 then kinds.SmallL
    else if b == 109 then kinds.SmallM
    else if b == 110 then kinds.SmallN
    else if b == 111 then kinds.SmallO
    else if b == 112 then kinds.SmallP
    else if b == 113 then kinds.SmallQ
    else if b == 115 then kinds.SmallS
    else if b == 116 then kinds.SmallT
    else if b == 117 then kinds.SmallU
    else if b == 118 then kinds.SmallV
    else if b == 120 then kinds.SmallX
    else if b == 121 then kinds.SmallY
    else if (nat_le 65 b && nat_le b 70) || (nat_le 98 b && nat_le b 102) then kinds.HexLetter
    else if (nat_le 71 b && nat_le b 90) || ((nat_le 104 b && nat_le b 122) || (b == 95)) then kinds.Letter
    else if nat_le 48 b && nat_le b 57 then kinds.Digit
    else if (b == 45) || (b == 46) then kinds.Mark
    else if nat_le b 31 then kinds.Control
    else kinds.Plain

-- of a character from 128 on
unfoldable pub wide_kind : ℕ → Kind
wide_kind c =
    if has_between name_starts c c then kinds.WideStart
    else if has_between name_characters c c then kinds.WideName
    else if has_between characters c c then kinds.WideOther
    else kinds.WideRefused

abbrev pub kind : ℕ → Kind
kind c = if nat_lt c 128 then ascii_kind c else wide_kind c

-- kinds differ by their numbers
abbrev pub kind_number : Kind → ℕ
kind_number kinds.Space = 0
kind_number kinds.Bang = 1
kind_number kinds.Quotation = 2
kind_number kinds.Number = 3
kind_number kinds.Ampersand = 4
kind_number kinds.Apostrophe = 5
kind_number kinds.Slash = 6
kind_number kinds.Colon = 7
kind_number kinds.Semicolon = 8
kind_number kinds.Less = 9
kind_number kinds.Equals = 10
kind_number kinds.Greater = 11
kind_number kinds.Question = 12
kind_number kinds.LeftBracket = 13
kind_number kinds.RightBracket = 14
kind_number kinds.SmallA = 15
kind_number kinds.SmallE = 16
kind_number kinds.SmallG = 17
kind_number kinds.SmallL = 18
kind_number kinds.SmallM = 19
kind_number kinds.SmallN = 20
kind_number kinds.SmallO = 21
kind_number kinds.SmallP = 22
kind_number kinds.SmallQ = 23
kind_number kinds.SmallS = 24
kind_number kinds.SmallT = 25
kind_number kinds.SmallU = 26
kind_number kinds.SmallV = 27
kind_number kinds.SmallX = 28
kind_number kinds.SmallY = 29
kind_number kinds.HexLetter = 30
kind_number kinds.Letter = 31
kind_number kinds.Digit = 32
kind_number kinds.Mark = 33
kind_number kinds.Plain = 34
kind_number kinds.Control = 35
kind_number kinds.WideStart = 36
kind_number kinds.WideName = 37
kind_number kinds.WideOther = 38
kind_number kinds.WideRefused = 39

abbrev pub is_kind : Kind → Kind → Bool
is_kind k j = kind_number k == kind_number j

abbrev pub is_wide : Kind → Bool
is_wide kinds.WideStart = true
is_wide kinds.WideName = true
is_wide kinds.WideOther = true
is_wide kinds.WideRefused = true
is_wide k = false

-- below 128, may begin a name without colons (Namespaces in XML 1.0 [4] NCName); may stand in one
abbrev pub is_name_start : Kind → Bool
is_name_start kinds.SmallA = true
is_name_start kinds.SmallE = true
is_name_start kinds.SmallG = true
is_name_start kinds.SmallL = true
is_name_start kinds.SmallM = true
is_name_start kinds.SmallN = true
is_name_start kinds.SmallO = true
is_name_start kinds.SmallP = true
is_name_start kinds.SmallQ = true
is_name_start kinds.SmallS = true
is_name_start kinds.SmallT = true
is_name_start kinds.SmallU = true
is_name_start kinds.SmallV = true
is_name_start kinds.SmallX = true
is_name_start kinds.SmallY = true
is_name_start kinds.HexLetter = true
is_name_start kinds.Letter = true
is_name_start k = false

abbrev pub is_name_further : Kind → Bool
is_name_further kinds.Digit = true
is_name_further kinds.Mark = true
is_name_further k = is_name_start k

-- from 128 on
abbrev pub is_wide_name_start : Kind → Bool
is_wide_name_start k = is_kind kinds.WideStart k

abbrev pub is_wide_name_further : Kind → Bool
is_wide_name_further k = is_kind kinds.WideStart k || is_kind kinds.WideName k

-- what XML allows
abbrev pub is_allowed : Kind → Bool
is_allowed kinds.Control = false
is_allowed kinds.WideRefused = false
is_allowed k = true

-- XML 1.0 [14] CharData, but brackets
abbrev pub is_plain : Kind → Bool
is_plain kinds.Less = false
is_plain kinds.Ampersand = false
is_plain kinds.RightBracket = false
is_plain k = is_allowed k

abbrev pub is_plain_after : Kind → Bool
is_plain_after kinds.Greater = false
is_plain_after k = is_plain k

-- XML 1.0 [20] CData, but brackets
abbrev pub is_cdata : Kind → Bool
is_cdata kinds.RightBracket = false
is_cdata k = is_allowed k

abbrev pub is_cdata_after : Kind → Bool
is_cdata_after kinds.Greater = false
is_cdata_after k = is_cdata k

abbrev pub quote : Quote → Kind
quote Double = kinds.Quotation
quote Single = kinds.Apostrophe

-- XML 1.0 [10] AttValue, but white space
abbrev pub is_value_character : Quote → Kind → Bool
is_value_character q kinds.Less = false
is_value_character q kinds.Ampersand = false
is_value_character q kinds.Space = false
is_value_character Double kinds.Quotation = false
is_value_character Single kinds.Apostrophe = false
is_value_character q k = is_allowed k

-- what may stand after `&` in a reference that RFC 6120, 11.1 refuses
abbrev pub is_refusable : Kind → Bool
is_refusable kinds.Semicolon = true
is_refusable kinds.Colon = true
is_refusable k = is_name_further k || is_wide k

abbrev pub is_digit : Base → Kind → Bool
is_digit b kinds.Digit = true
is_digit Hexadecimal kinds.SmallA = true
is_digit Hexadecimal kinds.SmallE = true
is_digit Hexadecimal kinds.HexLetter = true
is_digit b k = false

-- what a digit stands for
abbrev pub digit : ℕ → ℕ
digit c = if nat_lt c 58 then c - 48 else (if nat_lt c 71 then c - 55 else c - 87)

abbrev pub base_of : Base → ℕ
base_of Decimal = 10
base_of Hexadecimal = 16
