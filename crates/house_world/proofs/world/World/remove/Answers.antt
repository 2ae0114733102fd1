use Rattle.std.proofs.Common.{◌≡◌, Option, refl, ap, ◌∙◌}
use Rattle.std.specs.Prelude.{is_some}
use Rattle.session_table.specs.declared.life.Life.TheVariants.{Over}
use Rattle.session_table.specs.Sessions.{SessionRecord}
use Rattle.session_table.specs.Tables.{TableRecord, line_of, session_of}
use Rattle.sm_resume.specs.declared.decision.Cause.{Cause}
use Rattle.house_world.proofs.DepartLemmas.{part_did}
use Rattle.house_world.proofs.OffLemmas.{there}
use Rattle.house_world.proofs.world.World.remove.Goals as goal

pub remove-requires : goal.remove-requires
remove-requires c =
    let who = there (λ (x : SessionRecord). (cause : Cause) × (x.state ≡ Over cause)) (session_of c.args.s c.args.self.now.table) c.requires.over in
    ap (λ (o : Option SessionRecord). is_some o) who.1

pub returns-clause-did : goal.returns-clause-did
returns-clause-did c =
    let who = there (λ (x : SessionRecord). (cause : Cause) × (x.state ≡ Over cause)) (session_of c.args.s c.args.self.now.table) c.requires.over in
    part_did c.args.self.now c.args.s c.remove.new.self.spare who.2.0 who.0 c.requires.tied c.session.ensures.rises who.1 who.2.1
    c.remove.new.self c.remove.ensures.table

pub returns-clause-others : goal.returns-clause-others
returns-clause-others c = λ w d u at. (ap (λ (t : TableRecord). line_of w t) c.remove.ensures.table ∙ at, refl)
