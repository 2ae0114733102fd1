use Rattle.std.proofs.Common.{length, List, ap, sym, subst}
use Rattle.contact_table.specs.Tables.{BookRecord}
use Rattle.house_model.specs.declared.answer.Answer.{Answer}
use Rattle.house_world.specs.Keeping.{Keeps}
use Rattle.house_world.proofs.BookLemmas.{book_same}
use Rattle.house_core.proofs.LoginLemmas.{log_enters}
use Rattle.house_core.proofs.lines.log_among.Goals as goal

pub returns-in-Some : goal.returns-in-Some
returns-in-Some c =
    log_enters c.args.w c.in-Some.place c.args.user.now c.args.users.now c.args.world.now c.log.new.self c.in-Some.ensures c.log.ensures.world
    c.log.ensures.tied c.log.ensures.users c.log.ensures.few c.log.ensures.lines (ap (λ (xs : List (List Answer)). length xs) c.log.ensures.answered)
    (subst (λ (b : BookRecord). Keeps c.args.world.now.book b) (sym c.log.ensures.book) book_same)
