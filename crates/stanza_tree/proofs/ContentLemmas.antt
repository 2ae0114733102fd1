-- Whether nodes spell anything.
use Rattle.std.proofs.Common.{◌≡◌, ◌∙◌, ℕ, ◌<◌, List, [], ◌∷◌, ◌++◌, length, true, nat_lt, codes, sym, ap, arith, length-append}
use Rattle.std.proofs.lemmas.Grind.{common_steps}
use Rattle.std.specs.Prelude.{OnOk, Result, Ok, Err}
use Rattle.stanza_tree.specs.declared.node.Element.{Element}
use Rattle.stanza_tree.specs.declared.node.Node.{Node}
use Rattle.stanza_tree.specs.declared.node.Node.TheOpen.{Child, Words}
use Rattle.stanza_tree.specs.declared.node.Node.TheViews.{out-Node}
use Rattle.stanza_tree.specs.Spelling.{escaped_in_words, words_text, named, opened, closed, text_under, texts_under}
use Rattle.stanza_tree.proofs.SpellingLemmas.{text_under-parts, texts-child, texts-words}

opened-some : (parent : List ℕ) (e : Element) → 0 < length (opened parent e.name e.attrs)
unfolding opened named
opened-some parent e = grind (arith, common_steps)

element-some : (parent : List ℕ) (e : Element) → 0 < length (text_under parent e)
element-some parent e =
    omega (
      arith,
      ap length (text_under-parts parent e),
      length-append (opened parent e.name e.attrs)
          (closed e.name.local (texts_under e.name.space e.children)),
      opened-some parent e,
    )

byte-some : (b : ℕ) → 0 < length (escaped_in_words b)
unfolding escaped_in_words
byte-some b = grind (arith, common_steps)

words-some : (w : List ℕ) → 0 < length w → 0 < length (words_text w)
words-some [] some = absurd (omega arith)
words-some (b ∷ bs) some = omega (arith, byte-some b, length-append (escaped_in_words b) (words_text bs))

first-some : (s rest : List ℕ) → 0 < length s → nat_lt 0 (length (s ++ rest)) ≡ true
first-some s rest some = grind (arith, common_steps)

-- an element spells something, and so do words that are not empty
pub content-child : (s : List ℕ) (n : Node) (ns : List Node) (e : Element) → out-Node n ≡ Child e → true ≡ nat_lt 0 (length (texts_under s (n ∷ ns)))
content-child s n ns e here =
    sym (ap (λ l. nat_lt 0 (length l)) (texts-child s n ns e here) ∙ first-some (text_under s e) (texts_under s ns) (element-some s e))

pub content-words : (s : List ℕ) (n : Node) (ns : List Node) (w : List ℕ) → out-Node n ≡ Words w → 0 < length w
    → true ≡ nat_lt 0 (length (texts_under s (n ∷ ns)))
content-words s n ns w here some =
    sym (ap (λ l. nat_lt 0 (length l)) (texts-words s n ns w here) ∙ first-some (words_text w) (texts_under s ns) (words-some w some))

-- empty words spell nothing
pub content-none : (s : List ℕ) (n : Node) (ns : List Node) (w : List ℕ) → out-Node n ≡ Words w → length w ≡ 0 → texts_under s ns ≡ texts_under s (n ∷ ns)
content-none s n ns [] here none = sym (texts-words s n ns [] here)
content-none s n ns (b ∷ bs) here none = absurd (omega arith)

closed-some : (local content : List ℕ) → nat_lt 0 (length content) ≡ true → closed local content ≡ codes ">" ++ content ++ codes "</" ++ local ++ codes ">"
unfolding closed
closed-some local content some = grind (arith, common_steps)

-- a start tag, what the children spell and an end tag are the element
pub element-whole : (parent : List ℕ) (e : Element) (before after start end content local : List ℕ) → texts_under e.name.space e.children ≡ content
    → nat_lt 0 (length content) ≡ true
    → local ≡ e.name.local → start ≡ before ++ opened parent e.name e.attrs ++ codes ">" → end ≡ start ++ content
    → after ≡ end ++ codes "</" ++ local ++ codes ">"
    → after ≡ before ++ text_under parent e
element-whole parent e before after start end content local same some named_so opens holds ends =
    let whole = text_under-parts parent e ∙ ap (λ c. opened parent e.name e.attrs ++ closed e.name.local c) same
    ∙ ap (λ c. opened parent e.name e.attrs ++ c) (closed-some e.name.local content some) in
    grind (arith, common_steps, whole)

-- what follows from a success
pub on_ok : {T E P Q : Type 0} (r : Result T E) → (P → Q) → OnOk r P → OnOk r Q
on_ok (Ok x) f p = f p
on_ok (Err e) f p = p

pub on_always : {T E P : Type 0} (r : Result T E) → P → OnOk r P
on_always (Ok x) p = p
on_always (Err e) p = tt
