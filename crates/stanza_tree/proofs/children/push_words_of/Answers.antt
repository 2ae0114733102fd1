-- words after UTF-8 are UTF-8
use Rattle.std.proofs.Common.{sym, subst}
use Rattle.std.specs.Prelude.{IsUtf8}
use Rattle.std.proofs.lemmas.Str.{IsUtf8-append}
use Rattle.stanza_tree.proofs.children.push_words_of.Goals as goal

pub returns-in_ok-extend_from_slice-in-Words-clause-utf8 : goal.returns-in_ok-extend_from_slice-in-Words-clause-utf8
returns-in_ok-extend_from_slice-in-Words-clause-utf8 c = λ h.
    subst IsUtf8 (sym c.in_ok-extend_from_slice-in-Words.ensures.items)
    (IsUtf8-append c.args.joined.now.items c.bytes.result.now h (subst IsUtf8 (sym c.bytes.ensures.bytes) c.bytes.ensures.utf8))
