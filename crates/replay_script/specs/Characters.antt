-- Characters of a script.
use Rattle.std.specs.Prelude.{ℕ, Bool, not, ◌&&◌, ◌==◌, nat_le, nat_lt, List, length}
use Rattle.std.specs.List.{list_all}
use Rattle.std.specs.Str.{chars, is_utf8}
use Rattle.std.specs.Char.{is_control}
use Rattle.stream_lex.specs.grammar.Classes as classes

-- XML 1.0, production 2
unfoldable pub is_xml_char : ℕ → Bool
is_xml_char c = classes.is_xml c

-- UTF-8, all characters of XML
unfoldable pub is_xml : List ℕ → Bool
is_xml text = is_utf8 text && list_all is_xml_char (chars text)

-- a character of XML that is neither a space nor a control character (Unicode's general category Cc)
unfoldable pub is_token_char : ℕ → Bool
is_token_char c = not (c == 32) && not (is_control c) && is_xml_char c

-- at least one of them
unfoldable pub is_token : List ℕ → Bool
is_token text = nat_lt 0 (length text) && is_utf8 text && list_all is_token_char (chars text)

-- a character of ASCII, from this one to the tilde
abbrev pub is_low : ℕ → ℕ → Bool
is_low from b = nat_le from b && nat_lt b 127
