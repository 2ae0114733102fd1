-- How long an element is, by itself and among the children of another of its namespace.
use Rattle.std.proofs.Common.{◌≡◌, ap, arith, ℕ, ◌+◌, List, length}
use Rattle.std.proofs.lemmas.Grind.{common_steps}
use Rattle.stanza_tree.specs.Spelling.{attributes, client_space, closed, declarations, default_space, named, opened, text_under, texts_under}
use Rattle.stanza_tree.specs.declared.node.Element.{Element}
use Rattle.stanza_tree.specs.declared.node.Name.{Name}
use Rattle.stanza_tree.proofs.SpellingLemmas.{text_under-parts}

length-named : (parent : List ℕ) (n : Name) → length (named parent n) ≡ 1 + length n.local + length (default_space parent n.space)
unfolding named
length-named parent n = grind (arith, common_steps)

length-under : (parent : List ℕ) (e : Element) → length (text_under parent e)
    ≡ length (named parent e.name) + length (declarations 0 e.attrs) + length (attributes 0 e.attrs)
    + length (closed e.name.local (texts_under e.name.space e.children))
unfolding opened
length-under parent e = grind (arith, common_steps, ap length (text_under-parts parent e))

-- by itself it declares its namespace
pub length_alone : (space : List ℕ) (e : Element) → e.name.space ≡ space
    → length (text_under client_space e) + length (default_space space space) ≡ length (text_under space e) + length (default_space client_space space)
length_alone space e is =
    omega (
      arith,
      length-under client_space e,
      length-under space e,
      length-named client_space e.name,
      length-named space e.name,
      ap (λ s. length (default_space client_space s)) is,
      ap (λ s. length (default_space space s)) is,
    )
