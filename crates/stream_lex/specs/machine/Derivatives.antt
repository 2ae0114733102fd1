-- What may follow a first character (Brzozowski's derivative), in a form without parts that are none or empty.
use Rattle.std.specs.Prelude.{ℕ, ◌+◌, ◌*◌, cond, ◌&&◌, nat_lt}
use Rattle.stream_lex.specs.declared.kinds.Kind.{Kind}
use Rattle.stream_lex.specs.declared.kinds.Kind.TheVariants.{Semicolon}
use Rattle.stream_lex.specs.grammar.Classes.{is_xml}
use Rattle.stream_lex.specs.grammar.Kinds.{is_digit, digit, base_of}
use Rattle.stream_lex.specs.grammar.Expressions.{Expression, void, empty, yields, silent_symbol, symbol, digits, number, concat, union, star, concat_of}

-- p or q
abbrev pub union_of : Expression → Expression → Expression
union_of void q = q
union_of p void = p
union_of p q = union p q

-- the texts without characters
abbrev pub empty_part : Expression → Expression
empty_part empty = empty
empty_part (yields us) = yields us
empty_part (concat p q) = concat_of (empty_part p) (empty_part q)
empty_part (union p q) = union_of (empty_part p) (empty_part q)
empty_part (star p) = empty
empty_part p = void

-- what may follow a first character c of kind k
abbrev pub derivative : Kind → ℕ → Expression → Expression
derivative k c void = void
derivative k c empty = void
derivative k c (yields us) = void
derivative k c (silent_symbol P) = cond (P k c) empty void
derivative k c (symbol P f) = cond (P k c) (yields (f c)) void
derivative k c (digits base f) = cond (is_digit base k) (number base f (digit c)) void
derivative Semicolon c (number base f v) = cond (is_xml v) (yields (f v)) void
derivative k c (number base f v) = cond (is_digit base k && nat_lt (base_of base * v + digit c) 0x110000) (number base f (base_of base * v + digit c)) void
derivative k c (concat p q) = union_of (concat_of (derivative k c p) q) (concat_of (empty_part p) (derivative k c q))
derivative k c (union p q) = union_of (derivative k c p) (derivative k c q)
derivative k c (star p) = concat_of (derivative k c p) (star p)
