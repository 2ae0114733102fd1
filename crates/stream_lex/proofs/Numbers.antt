-- Character references: which values digits can still complete.
use Rattle.std.proofs.Common.{◌≡◌, ℕ, ◌+◌, ◌*◌, ◌<◌, ◌≤◌, List, [], ◌∷◌, true, arith}
use Rattle.std.proofs.lemmas.Bool.Decides.{nat_tests}
use Rattle.stream_lex.specs.declared.stages.Base.{Base}
use Rattle.stream_lex.specs.declared.stages.Base.TheVariants.{Decimal, Hexadecimal}
use Rattle.stream_lex.specs.grammar.Classes.{is_xml}
use Rattle.stream_lex.specs.grammar.Kinds.{digit}
use Rattle.stream_lex.specs.grammar.Expressions.{value}

pub xml-bound : (n : ℕ) → is_xml n ≡ true → n < 0x110000
xml-bound n h = grind (arith, nat_tests)

pub value-grows : (base : Base) (v : ℕ) (ds : List ℕ) → v ≤ value base v ds
value-grows base v [] = omega arith
value-grows Decimal v (d ∷ ds) = let h : 10 * v + digit d ≤ value Decimal (10 * v + digit d) ds = value-grows Decimal (10 * v + digit d) ds in omega arith
value-grows Hexadecimal v (d ∷ ds) = let h : 16 * v + digit d ≤ value Hexadecimal (16 * v + digit d) ds =
    value-grows Hexadecimal (16 * v + digit d) ds in omega arith
