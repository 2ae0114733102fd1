use Rattle.std.proofs.Common.{ℕ, List, bytes_eq, ap, sym, ◌∙◌}
use Rattle.std.specs.Map.{lookup}
use Rattle.archive_table.proofs.UserLemmas.{user-at}
use Rattle.archive_table.proofs.users.find.Goals as goal

pub returns : goal.returns
returns c =
    let es = c.args.users.now.entries in
    c.get.ensures.value ∙ ap (λ (m : List ℕ). lookup (λ k. bytes_eq m k.items) es) c.bytes.ensures.bytes ∙ sym (user-at c.args.user.now es)
