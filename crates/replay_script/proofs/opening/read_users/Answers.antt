use Rattle.std.proofs.Common.{rules, ap, Some, ◌∙◌}
use Rattle.jid_core.specs.Cuts.{before}
use Rattle.replay_script.proofs.UserLemmas.{users_step, users_end, end_differ, step_prepared}
use Rattle.replay_script.proofs.opening.read_users.Goals as goal

pub returns-in-None-clause-read : goal.returns-in-None-clause-read
returns-in-None-clause-read c =
    users_end c.args.field.now c.loop-count.rest.now c.loop-count.users.items c.in_ok-user.user c.loop-count.invariant.parts (search rules)
    c.loop-count.invariant.users
    c.loop-count.invariant.differ (search rules) (search rules)
    ∙ ap Some (search rules)

pub returns-in-None-clause-differ : goal.returns-in-None-clause-differ
returns-in-None-clause-differ c =
    let grown = end_differ c.loop-count.users.items (before 44 c.loop-count.rest.now) c.in_ok-user.user c.loop-count.invariant.differ (search rules) in
    search (rules, grown)

pub loop-count-preserved : goal.loop-count-preserved
loop-count-preserved c =
    let step = users_step c.args.field.now c.loop-count.rest.now c.in-Some.more.now c.loop-count.users.items c.in_ok-user.user c.loop-count.invariant.parts
    c.loop-count.invariant.users
    c.loop-count.invariant.differ (search rules) (search rules) in
    record {
      parts = search (rules, step.0);
      users = search (rules, step.1);
      differ = search (rules, step.2);
      prepared = search (rules, step_prepared);
      count = search rules;
    }
