-- Counting as far as a number.
use Rattle.std.proofs.Common.{◌≡◌, ℕ, ◌+◌, ◌<◌, ◌≤◌, ◌^◌, ◌-◌, min, arith, List, length, ap, length-append}
use Rattle.stanza_tree.specs.declared.node.Element.{Element}
use Rattle.stanza_tree.specs.Spelling.{opened, closed, text_under, texts_under}
use Rattle.stanza_tree.proofs.SpellingLemmas.{text_under-parts}
use Rattle.std.proofs.lemmas.Grind.{common_steps}

pub counted-more : (c m t r w most : ℕ) → most < 2 ^ 64 → min m most ≡ min t most → min (c + (t + r)) most ≡ w → min (min (c + m) (2 ^ 64 - 1) + r) most ≡ w
counted-more c m t r w most = grind (arith, common_steps)

pub counted-enough : (c r t w most : ℕ) → most ≤ c → min (c + r) most ≡ min t most → t ≤ w → min most most ≡ min w most
counted-enough c r t w most = grind (arith, common_steps)

-- an element is no shorter than what it contains
closed-longer : (local content : List ℕ) → length content ≤ length (closed local content)
unfolding closed
closed-longer local content = grind (arith, common_steps)

pub text_under-longer : (parent : List ℕ) (e : Element) → length (texts_under e.name.space e.children) ≤ length (text_under parent e)
text_under-longer parent e =
    omega (
      arith,
      ap length (text_under-parts parent e),
      length-append (opened parent e.name e.attrs) (closed e.name.local (texts_under e.name.space e.children)),
      closed-longer e.name.local (texts_under e.name.space e.children),
    )
