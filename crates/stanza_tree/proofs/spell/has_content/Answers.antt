use Rattle.std.proofs.Common.{◌≡◌, ◌∙◌, ◌+◌, ◌∷◌, ◌<◌, length, nat_lt, arith, ap, sym, drop}
use Rattle.std.proofs.lemmas.Grind.{common_steps}
use Rattle.stanza_tree.specs.Spelling.{texts_under}
use Rattle.stanza_tree.specs.declared.node.Node.TheViews.{out-Node, outs-Child, outs-Words}
use Rattle.stanza_tree.proofs.ContentLemmas.{content-child, content-words, content-none}
use Rattle.stanza_tree.proofs.spell.has_content.Goals as goal

pub returns-in-Child : goal.returns-in-Child
returns-in-Child c = λ parent.
    let ns = drop (c.loop-node.node-index + 1) c.args.nodes.now in
    let here : drop c.loop-node.node-index c.args.nodes.now ≡ c.node-item.result ∷ ns = grind (arith, common_steps) in
    content-child parent c.node-item.result ns c.in-Child.field-0 (ap out-Node c.in-Child.is ∙ outs-Child c.in-Child.field-0)
    ∙ ap (λ is. nat_lt 0 (length is)) (ap (texts_under parent) (sym here) ∙ c.loop-node.invariant parent)

pub returns-in-Words-2 : goal.returns-in-Words-2
returns-in-Words-2 c = λ parent.
    let ns = drop (c.loop-node.node-index + 1) c.args.nodes.now in
    let here : drop c.loop-node.node-index c.args.nodes.now ≡ c.node-item.result ∷ ns = grind (arith, common_steps) in
    let some : 0 < length c.in-Words.words = grind (arith, common_steps) in
    content-words parent c.node-item.result ns c.in-Words.words (ap out-Node c.in-Words.is ∙ outs-Words c.in-Words.words) some
    ∙ ap (λ is. nat_lt 0 (length is)) (ap (texts_under parent) (sym here) ∙ c.loop-node.invariant parent)

pub loop-node-preserved : goal.loop-node-preserved
loop-node-preserved c = λ parent.
    let ns = drop (c.loop-node.node-index + 1) c.args.nodes.now in
    let here : drop c.loop-node.node-index c.args.nodes.now ≡ c.node-item.result ∷ ns = grind (arith, common_steps) in
    let none : length c.in-Words.words ≡ 0 = grind (arith, common_steps) in
    content-none parent c.node-item.result ns c.in-Words.words (ap out-Node c.in-Words.is ∙ outs-Words c.in-Words.words) none
    ∙ (ap (texts_under parent) (sym here) ∙ c.loop-node.invariant parent)
