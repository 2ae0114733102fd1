use Rattle.std.proofs.Common.{rules, ◌≡◌, sym, subst}
use Rattle.std.specs.Prelude.{IsUtf8}
use Rattle.stanza_model.specs.Growing.{grown}
use Rattle.stanza_model.proofs.GrowingLemmas.{grown_utf8}
use Rattle.stanza_model.proofs.ids.grown.Goals as goal

pub of_vec-requires : goal.of_vec-requires
of_vec-requires c =
    let whole : c.push_grown.new.out.items ≡ grown c.args.local.now c.args.spelt.now c.args.child.now = search rules in
    subst IsUtf8 (sym whole)
    (grown_utf8 c.args.local.now c.args.spelt.now c.args.child.now c.bytes-local.ensures.utf8 c.bytes-child.ensures.utf8 c.requires)
