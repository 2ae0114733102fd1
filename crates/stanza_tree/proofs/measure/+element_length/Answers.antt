use Rattle.std.proofs.Common.{◌≡◌, ◌∙◌, ◌+◌, ◌-◌, ◌^◌, ◌∷◌, arith, ap, length, length-append, drop, min}
use Rattle.std.proofs.lemmas.Grind.{common_steps}
use Rattle.stanza_tree.specs.Spelling.{text_under, texts_under, words_text}
use Rattle.stanza_tree.specs.declared.node.Node.TheViews.{out-Node, outs-Child, outs-Words}
use Rattle.stanza_tree.proofs.CountLemmas.{counted-more, text_under-longer}
use Rattle.stanza_tree.proofs.SpellingLemmas.{text_under-parts, texts-child, texts-words}
use Rattle.stanza_tree.proofs.measure.+element_length.Goals as goal
use Rattle.stanza_tree.proofs.measure.+element_length.Goals.{in-Child, in-Words}

-- the children have enough, and the element is no shorter
pub returns-then-content-most : goal.returns-then-content-most
returns-then-content-most t c =
    let longer = text_under-longer c.args.parent.now c.args.element.now in
    grind (arith, common_steps, longer)

-- each child is counted as far as it matters
pub loop-node-preserved : goal.loop-node-preserved
loop-node-preserved t c =
    let space = c.args.element.now.name.space in
    let items = c.slice-node-items.result.now in
    let ns = drop (c.loop-node.node-index + 1) items in
    let here : drop c.loop-node.node-index items ≡ c.node-item.result ∷ ns = grind (arith, common_steps) in
    let rest = length (texts_under space ns) in
    let whole = min (length (texts_under space items)) c.args.most in
    elim c.match-node.branch [
      | in-Child w ↦
          let first = text_under space w.in-Child.child in
          let parts = ap (λ is. length (texts_under space is)) here
          ∙ ap length (texts-child space c.node-item.result ns w.in-Child.child (ap out-Node w.in-Child.is ∙ outs-Child w.in-Child.child))
          ∙ length-append first (texts_under space ns) in
          let more = w.element_length-more.ensures ∙ ap (λ b. min (length (text_under b w.in-Child.child)) c.args.most) w.bytes.ensures.bytes in
          let sum = counted-more c.loop-node.content w.element_length-more.result (length first) rest whole c.args.most c.ranges.most.fits more
          (omega (arith, parts, c.loop-node.invariant.whole)) in
          record {
            same = c.loop-node.invariant.same;
            fits = c.saturating_add-content.type_inv;
            whole =
                omega (arith, sum, c.saturating_add-content.ensures, w.more-is);
          }
      | in-Words w ↦
          let first = words_text w.in-Words.words in
          let parts = ap (λ is. length (texts_under space is)) here
          ∙ ap length (texts-words space c.node-item.result ns w.in-Words.words (ap out-Node w.in-Words.is ∙ outs-Words w.in-Words.words))
          ∙ length-append first (texts_under space ns) in
          let more = w.words_length-more.ensures ∙ ap (λ b. min (length (words_text b)) (2 ^ 64 - 1)) w.bytes-in-Words.ensures.bytes in
          record {
            same = c.loop-node.invariant.same;
            fits = c.saturating_add-content.type_inv;
            whole =
                omega (arith, parts, more, c.loop-node.invariant.whole, c.saturating_add-content.ensures, w.more-is);
          }
    ]

pub returns : goal.returns
returns t c =
    let e = ap length (text_under-parts c.args.parent.now c.args.element.now) in
    let content = c.closed_length.ensures.counted (texts_under c.args.element.now.name.space c.args.element.now.children) c.args.most in
    grind (arith, common_steps, e, content)
