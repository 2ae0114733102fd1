-- Classes of characters from 128 on, each the first and the last of its runs.
use Rattle.std.specs.Prelude.{ℕ, List, [], ◌∷◌, Bool, false, ◌&&◌, ◌||◌, nat_le, ◌==◌}
use Rattle.stream_lex.specs.declared.characters.Allowed.{Allowed}
use Rattle.stream_lex.specs.declared.characters.Allowed.TheVariants as allowed

abbrev pub CharacterClass : Type 0
CharacterClass = List (ℕ × ℕ)

-- whether some number from low to high is in the class
abbrev pub has_between : CharacterClass → ℕ → ℕ → Bool
has_between [] low high = false
has_between (run ∷ runs) low high = (nat_le run.0 high && nat_le low run.1) || has_between runs low high

-- XML 1.0 [2] Char ::= #x9 | #xA | #xD | [#x20-#xD7FF] | [#xE000-#xFFFD] | [#x10000-#x10FFFF], from 128 on
unfoldable pub characters : CharacterClass
characters = (0x80, 0xD7FF) ∷ (0xE000, 0xFFFD) ∷ (0x10000, 0x10FFFF) ∷ []

-- the same, of any character
abbrev pub is_xml : ℕ → Bool
is_xml c = ((c == 0x9) || ((c == 0xA) || (c == 0xD))) || ((nat_le 0x20 c && nat_le c 0xD7FF) ||
    ((nat_le 0xE000 c && nat_le c 0xFFFD) || (nat_le 0x10000 c && nat_le c 0x10FFFF)))

-- XML 1.0 [4] NameStartChar, from 128 on
unfoldable pub name_starts : CharacterClass
name_starts = (0xC0, 0xD6) ∷ (0xD8, 0xF6) ∷ (0xF8, 0x2FF) ∷ (0x370, 0x37D) ∷ (0x37F, 0x1FFF) ∷ (0x200C, 0x200D) ∷ (0x2070, 0x218F) ∷ (0x2C00, 0x2FEF)
    ∷ (0x3001, 0xD7FF) ∷ (0xF900, 0xFDCF) ∷ (0xFDF0, 0xFFFD) ∷ (0x10000, 0xEFFFF) ∷ []

-- XML 1.0 [4a] NameChar ::= NameStartChar | "-" | "." | [0-9] | #xB7 | [#x0300-#x036F] | [#x203F-#x2040], from 128 on
unfoldable pub name_characters : CharacterClass
name_characters = (0xB7, 0xB7) ∷ (0x300, 0x36F) ∷ (0x203F, 0x2040) ∷ name_starts

-- Unicode scalar values, from 128 on
unfoldable pub scalar_values : CharacterClass
scalar_values = (0x80, 0xD7FF) ∷ (0xE000, 0x10FFFF) ∷ []

abbrev pub class_of : Allowed → CharacterClass
class_of allowed.None = []
class_of allowed.NameStart = name_starts
class_of allowed.NameFurther = name_characters
class_of allowed.Any = characters
