-- The elements that are handed out are proper.
use Rattle.std.proofs.Common.{◌≡◌, ℕ, List, [], ◌∷◌, ◌++◌, Some, refl, sym, ap, subst, inl, inr}
use Rattle.std.proofs.lemmas.List.Elements.{All-contains, Contains-push}
use Rattle.std.specs.List.{Contains}
use Rattle.stanza_tree.specs.declared.node.Element.{Element}
use Rattle.stream_grammar.specs.declared.item.Item.TheVariants as item
use Rattle.stream_grammar.specs.declared.item.Limits.{Limits}
use Rattle.stream_grammar.specs.grammar.Trees.{nothing}
use Rattle.stream_grammar.specs.grammar.Elements.{tops_of}
use Rattle.stream_grammar.specs.grammar.Parts.{IsItem}
use Rattle.stream_grammar.specs.grammar.Proper.{IsProper}
use Rattle.stream_grammar.specs.machine.Reading.{first_reading, waiting, went}
use Rattle.stream_grammar.specs.grammar.Bounds.{rules_of}
use Rattle.stream_laws.proofs.OneFault.{item_or_fault}
use Rattle.stream_laws.proofs.ProperStreams.{header-proper}
use Rattle.stream_laws.proofs.ProperTops.{come-all}

-- the last of some bytes
split-last : (b : ℕ) (bs : List ℕ) → (xs : List ℕ) × (c : ℕ) × (b ∷ bs ≡ xs ++ c ∷ [])
split-last b [] = ([], b, refl)
split-last b (c ∷ cs) = let (xs, d, e) = split-last c cs in (b ∷ xs, d, ap (λ (l : List ℕ). b ∷ l) e)

top-of : (l : Limits) (bytes : List ℕ) (e : Element) → IsItem (rules_of l) bytes (item.Top e) → IsProper e
top-of l bytes e (root, f, come, named, ends, (es, tops)) =
    All-contains IsProper (tops_of root f) e (come-all (rules_of l) bytes root f come named)
    (subst (λ (xs : List Element). Contains xs e) (sym tops) (Contains-push es e))

header-of : (l : Limits) (bytes : List ℕ) (e : Element) (space : List ℕ) → IsItem (rules_of l) bytes (item.Header e space) → IsProper e
header-of l bytes e space (root, come, named, same, spaces) = subst IsProper (sym same) (header-proper (rules_of l) bytes root nothing come named)

pub top_proper : (l : Limits) (bytes : List ℕ) (e : Element) → waiting (went l first_reading bytes) ≡ Some (item.Top e) → IsProper e
top_proper l [] e h = absurd (cc)
top_proper l (b ∷ bs) e h = by (split-last b bs)
  where
    by : ((xs : List ℕ) × (c : ℕ) × (b ∷ bs ≡ xs ++ c ∷ [])) → IsProper e
    by (xs, c, same) = elim (item_or_fault l xs c (item.Top e) (subst (λ (x : List ℕ). waiting (went l first_reading x) ≡ Some (item.Top e)) same h)) [
      | inl is ↦ top-of l (xs ++ c ∷ []) e is
      | inr (k, f, other, is) ↦ absurd (cc)
    ]

pub header_proper : (l : Limits) (bytes : List ℕ) (e : Element) (space : List ℕ) → waiting (went l first_reading bytes) ≡ Some (item.Header e space)
    → IsProper e
header_proper l [] e space h = absurd (cc)
header_proper l (b ∷ bs) e space h = by (split-last b bs)
  where
    by : ((xs : List ℕ) × (c : ℕ) × (b ∷ bs ≡ xs ++ c ∷ [])) → IsProper e
    by (xs, c, same) = elim (item_or_fault l xs c (item.Header e space)
        (subst (λ (x : List ℕ). waiting (went l first_reading x) ≡ Some (item.Header e space)) same h)) [
          | inl is ↦ header-of l (xs ++ c ∷ []) e space is
          | inr (k, f, other, is) ↦ absurd (cc)
        ]
