use Rattle.std.proofs.Common.{◌≡◌, ◌++◌, arith, subst, sym, IsUtf8}
use Rattle.std.proofs.lemmas.Grind.{common_steps}
use Rattle.std.proofs.lemmas.Str.{IsUtf8-append}
use Rattle.stanza_tree.specs.Spelling.{text}
use Rattle.muc_room.proofs.views.content_of.Goals as goal

pub returns-clause-utf8 : goal.returns-clause-utf8
returns-clause-utf8 c =
    let both : c.write.new.out.items ≡ c.args.children.now ++ text c.args.x.now = grind (arith, common_steps) in
    subst IsUtf8 (sym both) (IsUtf8-append _ _ c.requires c.in_ok-write.ensures.utf8)
