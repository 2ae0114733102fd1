use Rattle.std.proofs.Common.{arith, subst, List, length, ◌<◌, ◌^◌, IsUtf8}
use Rattle.std.proofs.lemmas.Grind.{common_steps}
use Rattle.stanza_tree.specs.declared.node.Attr.{Attr}
use Rattle.stanza_tree.specs.declared.node.Node.{Node}
use Rattle.stanza_tree.specs.Spelling.{text, texts_under}
use Rattle.stanza_tree.specs.Stamps.{sent_by}
use Rattle.stanza_tree.specs.Utf8.{AttrsAreUtf8}
use Rattle.stanza_tree.proofs.ContentLemmas.{on_ok}
use Rattle.stanza_tree.proofs.StampLemmas.{text-sent}
use Rattle.stanza_tree.proofs.Utf8Lemmas.{sent-utf8}
use Rattle.stanza_tree.proofs.stamp.push_sent.Goals as goal

pub returns-clause-ok : goal.returns-clause-ok
returns-clause-ok c = grind (arith, common_steps, text-sent c.args.from.now c.args.element.now)

pub returns-clause-utf8 : goal.returns-clause-utf8
returns-clause-utf8 c =
    let e = c.args.element.now in
    let few = subst (λ (l : List Attr). length l < 2 ^ 64) c.slice.ensures c.know_utf8.ensures.few in
    let attrs = subst AttrsAreUtf8 c.slice.ensures c.know_utf8.ensures.attrs in
    let whole : IsUtf8 (texts_under e.name.space c.slice-4.result.now) → IsUtf8 (text (sent_by c.args.from.now e)) =
    λ u. sent-utf8 c.args.from.now e few c.requires c.know_utf8.ensures.name attrs
    (subst (λ (ns : List Node). IsUtf8 (texts_under e.name.space ns)) c.slice-4.ensures u) in
    on_ok c.push_content.result whole c.push_content.ensures.utf8
