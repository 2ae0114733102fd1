use Rattle.std.proofs.Common.{◌≡◌, ◌∙◌, ◌+◌, ◌∷◌, ◌++◌, ◌<◌, ◌^◌, true, length, nat_lt, codes, arith, ap, sym, subst, List, drop, IsUtf8}
use Rattle.std.proofs.lemmas.Grind.{common_steps}
use Rattle.stanza_tree.specs.declared.node.Attr.{Attr}
use Rattle.stanza_tree.specs.Utf8.{AttrsAreUtf8}
use Rattle.stanza_tree.specs.Spelling.{opened, texts_under}
use Rattle.stanza_tree.specs.declared.node.Node.TheViews.{out-Node, outs-Child, outs-Words}
use Rattle.stanza_tree.proofs.SpellingLemmas.{texts-child, texts-words}
use Rattle.stanza_tree.proofs.ContentLemmas.{element-whole, on_ok, on_always}
use Rattle.stanza_tree.proofs.Utf8Lemmas.{child-utf8, words-utf8, end-utf8, none-utf8, element-utf8}
use Rattle.stanza_tree.proofs.spell.+push_element.Goals as goal
use Rattle.stanza_tree.proofs.spell.+push_element.Goals.{in-Child+in_ok-push_element-in-Child, in-Words+in_ok-push_words-in-Words}

pub loop-node-preserved : goal.loop-node-preserved
loop-node-preserved t c =
    let space = c.bytes-space.result.now in
    let items = c.slice-children.result.now in
    let ns = drop (c.loop-node.node-index + 1) items in
    let here : drop c.loop-node.node-index items ≡ c.node-item.result ∷ ns = grind (arith, common_steps) in
    elim c.match-node.branch [
      | in-Child+in_ok-push_element-in-Child w ↦
          let child = ap out-Node w.in-Child.is ∙ outs-Child w.in-Child.child in
          let parts = ap (texts_under space) here ∙ texts-child space c.node-item.result ns w.in-Child.child child in
          record {
            kept = grind (arith, common_steps);
            utf8 = λ u. c.loop-node.invariant.utf8
                (subst (λ is. IsUtf8 (texts_under space is)) (sym here)
                (child-utf8 space c.node-item.result ns w.in-Child.child child w.in_ok-push_element-in-Child.ensures.utf8 u));
            joined = grind (arith, common_steps, parts);
          }
      | in-Words+in_ok-push_words-in-Words w ↦
          let words = ap out-Node w.in-Words.is ∙ outs-Words w.in-Words.words in
          let parts = ap (texts_under space) here ∙ texts-words space c.node-item.result ns w.in-Words.words words in
          record {
            kept = grind (arith, common_steps);
            utf8 = λ u. c.loop-node.invariant.utf8
                (subst (λ is. IsUtf8 (texts_under space is)) (sym here) (words-utf8 space c.node-item.result ns w.in-Words.words words w.bytes.ensures.utf8 u));
            joined = grind (arith, common_steps, parts);
          }
    ]

pub returns-clause-ok : goal.returns-clause-ok
returns-clause-ok t c =
    let e = c.args.element.now in
    let content = texts_under c.bytes-space.result.now c.slice-children.result.now in
    let same : texts_under e.name.space e.children ≡ content = grind (arith, common_steps) in
    let some : nat_lt 0 (length content) ≡ true = grind (arith, common_steps, c.has_content.ensures c.bytes-space.result.now) in
    let opens : c.push_byte.new.out.items ≡ c.args.out.now.items ++ opened c.args.parent.now e.name e.attrs ++ codes ">" =
    grind (arith, common_steps) in
    let holds : c.loop-node.out.items ≡ c.push_byte.new.out.items ++ content = grind (arith, common_steps) in
    let local : c.bytes-2.result.now ≡ e.name.local = grind (arith, common_steps) in
    on_ok c.push_end_tag.result (element-whole c.args.parent.now e c.args.out.now.items c.push_end_tag.new.out.items _ _ content _ same some local opens holds)
    c.push_end_tag.ensures.ok

pub returns-then-not-has_content-clause-utf8 : goal.returns-then-not-has_content-clause-utf8
returns-then-not-has_content-clause-utf8 t c =
    let e = c.args.element.now in
    let none : length (texts_under e.name.space e.children) ≡ 0 = grind (arith, common_steps, c.has_content.ensures e.name.space) in
    on_always c.extend_from_slice.result
    (element-utf8 c.args.parent.now e (subst (λ (l : List Attr). length l < 2 ^ 64) c.slice.ensures c.know_utf8.ensures.few) c.know_utf8.ensures.name
    (subst AttrsAreUtf8 c.slice.ensures c.know_utf8.ensures.attrs) (none-utf8 _ none))

pub returns-clause-utf8 : goal.returns-clause-utf8
returns-clause-utf8 t c =
    let e = c.args.element.now in
    let content = texts_under c.bytes-space.result.now c.slice-children.result.now in
    let same : content ≡ texts_under e.name.space e.children = grind (arith, common_steps) in
    let held : IsUtf8 content =
    c.loop-node.invariant.utf8 (end-utf8 c.bytes-space.result.now c.slice-children.result.now c.loop-node.node-index c.loop-node-test.false) in
    on_always c.push_end_tag.result
    (element-utf8 c.args.parent.now e (subst (λ (l : List Attr). length l < 2 ^ 64) c.slice.ensures c.know_utf8.ensures.few) c.know_utf8.ensures.name
    (subst AttrsAreUtf8 c.slice.ensures c.know_utf8.ensures.attrs) (subst IsUtf8 same held))
