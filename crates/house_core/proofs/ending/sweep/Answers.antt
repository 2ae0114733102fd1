use Rattle.std.proofs.Common.{◌≡◌, ℕ, true, refl, sym, ap, subst, ◌∙◌}
use Rattle.archive_table.specs.Tables.{archives_of}
use Rattle.session_table.specs.Sessions.{is_due}
use Rattle.session_table.specs.Tables.{IsFirst, first_due}
use Rattle.house_world.proofs.CastLemmas.{hosts_same}
use Rattle.house_world.proofs.QuietLemmas.{archived_same}
use Rattle.house_core.proofs.SweepLemmas.{nothing_ends, swept_ends}
use Rattle.house_core.proofs.ending.sweep.Goals as goal

pub returns-in_default-clause-done : goal.returns-in_default-clause-done
returns-in_default-clause-done c = λ k w t world now.
    nothing_ends k w t c.due.result c.args.world.now c.requires.tied world c.in_default.is
    (subst (λ (m : ℕ). IsFirst (λ x. is_due m x ≡ true) c.args.world.now.table c.due.result) (sym now) c.due.ensures.first)

pub returns-clause-done : goal.returns-clause-done
returns-clause-done c = λ k w t world now.
    swept_ends k w t c.in-Some.s c.args.world.now c.sweep_away.new.world c.sweep_away.ensures.rises world
    (ap (λ (m : ℕ). first_due m c.args.world.now.table.sessions) now ∙ sym c.in-Some.ensures.number) c.in_ok-sweep_away.ensures.did

pub returns-in_default-clause-hosts : goal.returns-in_default-clause-hosts
returns-in_default-clause-hosts c = hosts_same c.args.world.now.rooms c.args.world.now.rooms refl

pub returns-in_default-clause-archives : goal.returns-in_default-clause-archives
returns-in_default-clause-archives c = archived_same (archives_of c.args.world.now.archives) (archives_of c.args.world.now.archives) refl
