use Rattle.std.proofs.Common.{◌≡◌, ◌∙◌, ◌+◌, ◌∷◌, arith, ap, sym, subst, drop, IsUtf8}
use Rattle.std.proofs.lemmas.Grind.{common_steps}
use Rattle.stanza_tree.specs.Spelling.{texts_under}
use Rattle.stanza_tree.specs.declared.node.Node.TheViews.{out-Node, outs-Child, outs-Words}
use Rattle.stanza_tree.proofs.SpellingLemmas.{texts-child, texts-words}
use Rattle.stanza_tree.proofs.Utf8Lemmas.{child-utf8, words-utf8, end-utf8}
use Rattle.stanza_tree.proofs.spell.push_nodes.Goals as goal
use Rattle.stanza_tree.proofs.spell.push_nodes.Goals.{in-Child+in_ok-push_element-in-Child, in-Words+in_ok-push_words-in-Words}

pub loop-node-preserved : goal.loop-node-preserved
loop-node-preserved c =
    let space = c.args.parent.now in
    let items = c.args.nodes.now in
    let ns = drop (c.loop-node.node-index + 1) items in
    let here : drop c.loop-node.node-index items ≡ c.node-item.result ∷ ns = grind (arith, common_steps) in
    elim c.match-node.branch [
      | in-Child+in_ok-push_element-in-Child w ↦
          let child = ap out-Node w.in-Child.is ∙ outs-Child w.in-Child.child in
          let parts = ap (texts_under space) here ∙ texts-child space c.node-item.result ns w.in-Child.child child in
          record {
            kept = grind (arith, common_steps);
            utf8 = λ u. c.loop-node.invariant.utf8
                (subst (λ is. IsUtf8 (texts_under space is)) (sym here)
                (child-utf8 space c.node-item.result ns w.in-Child.child child w.in_ok-push_element-in-Child.ensures.utf8 u));
            joined = grind (arith, common_steps, parts);
          }
      | in-Words+in_ok-push_words-in-Words w ↦
          let words = ap out-Node w.in-Words.is ∙ outs-Words w.in-Words.words in
          let parts = ap (texts_under space) here ∙ texts-words space c.node-item.result ns w.in-Words.words words in
          record {
            kept = grind (arith, common_steps);
            utf8 = λ u. c.loop-node.invariant.utf8
                (subst (λ is. IsUtf8 (texts_under space is)) (sym here) (words-utf8 space c.node-item.result ns w.in-Words.words words w.bytes.ensures.utf8 u));
            joined = grind (arith, common_steps, parts);
          }
    ]

pub returns-clause-utf8 : goal.returns-clause-utf8
returns-clause-utf8 c = c.loop-node.invariant.utf8 (end-utf8 c.args.parent.now c.args.nodes.now c.loop-node.node-index c.loop-node-test.false)
