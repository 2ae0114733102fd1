use Rattle.std.proofs.Common.{rules, ap}
use Rattle.hall.specs.Openings.{opening_from}
use Rattle.hall.proofs.StoryLaws.{legal-known, legal-at}
use Rattle.hall.proofs.hall.Hall.meet.Goals as goal

pub returns-clause-into : goal.returns-clause-into
returns-clause-into c =
    let (value, story, root) = c.meet.ensures.told in
    (c.meet.ensures.idle, search rules, legal-at _ _ _ _ (ap opening_from root) story (legal-known _ _ _ value.stands))
