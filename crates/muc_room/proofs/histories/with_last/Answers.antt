use Rattle.std.proofs.Common.{◌≡◌, ◌∙◌, ◌++◌, ◌-◌, length, take, true, ap, sym, subst, arith, rules}
use Rattle.std.proofs.lemmas.Grind.{common_steps}
use Rattle.std.specs.Prelude.{IsUtf8}
use Rattle.muc_room.specs.Histories.{is_ended, message_end}
use Rattle.muc_room.proofs.HistoryLemmas.{last-utf8}
use Rattle.muc_room.proofs.histories.with_last.Goals as goal

pub of_vec-requires : goal.of_vec-requires
of_vec-requires c =
    let text = c.args.message.now in
    let joined : c.extend_from_slice-3.new.self.items ≡ take (length text - 10) text ++ c.args.child.now ++ message_end = grind (arith, common_steps) in
    let ended : is_ended text ≡ true = search rules in
    subst IsUtf8 (sym joined) (last-utf8 c.args.child.now text ended c.bytes-text.ensures.utf8 c.bytes.ensures.utf8)
