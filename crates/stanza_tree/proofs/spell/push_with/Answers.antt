use Rattle.std.proofs.Common.{◌<◌, ◌^◌, length, subst, List}
use Rattle.stanza_tree.specs.declared.node.Attr.{Attr}
use Rattle.stanza_tree.specs.Utf8.{AttrsAreUtf8}
use Rattle.stanza_tree.proofs.ContentLemmas.{on_always}
use Rattle.stanza_tree.proofs.Utf8Lemmas.{with-utf8}
use Rattle.stanza_tree.proofs.spell.push_with.Goals as goal

pub returns-then-is_empty-clause-utf8 : goal.returns-then-is_empty-clause-utf8
returns-then-is_empty-clause-utf8 c =
    on_always c.extend_from_slice.result
    (with-utf8 c.args.element.now c.args.content.now (subst (λ (l : List Attr). length l < 2 ^ 64) c.slice.ensures c.know_utf8.ensures.few)
    c.know_utf8.ensures.name (subst AttrsAreUtf8 c.slice.ensures c.know_utf8.ensures.attrs) c.requires)

pub returns-clause-utf8 : goal.returns-clause-utf8
returns-clause-utf8 c =
    on_always c.push_end_tag.result
    (with-utf8 c.args.element.now c.args.content.now (subst (λ (l : List Attr). length l < 2 ^ 64) c.slice.ensures c.know_utf8.ensures.few)
    c.know_utf8.ensures.name (subst AttrsAreUtf8 c.slice.ensures c.know_utf8.ensures.attrs) c.requires)
