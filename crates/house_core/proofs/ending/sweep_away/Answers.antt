use Rattle.std.proofs.Common.{[], refl, sym, ap, subst, arith}
use Rattle.archive_table.specs.Archives.{Archives}
use Rattle.archive_table.specs.Tables.{archives_of}
use Rattle.sm_resume.specs.declared.decision.Cause.TheVariants.{Lost}
use Rattle.house_model.specs.Routing.{departure}
use Rattle.house_model.specs.States.{World}
use Rattle.house_model.specs.Steps.{departs}
use Rattle.house_model.specs.Traffic.{KeptTraffic}
use Rattle.house_world.specs.Hosting.{Archived, IsCast}
use Rattle.house_world.specs.Worlds.{Did, seen}
use Rattle.house_world.proofs.CastLemmas.{hosts_by}
use Rattle.house_world.proofs.DidLemmas.{did_then}
use Rattle.house_world.proofs.StayLemmas.{there_kept}
use Rattle.house_world.proofs.WorldLemmas.{few_later}
use Rattle.house_core.proofs.ending.sweep_away.Goals as goal

pub depart-requires-clause-small : goal.depart-requires-clause-small
depart-requires-clause-small c = few_later _ _ c.prepare.new.self.table (c.prepare.ensures.same.few _ c.requires.small) (omega arith)

pub depart-requires-clause-there : goal.depart-requires-clause-there
depart-requires-clause-there c =
    there_kept c.args.world.now c.prepare.new.self c.args.s c.requires.tied
    (ap (λ (x : World KeptTraffic). x.sessions c.args.s) c.prepare.ensures.same.world) c.requires.there

pub depart-requires-clause-told : goal.depart-requires-clause-told
depart-requires-clause-told c =
    subst (λ (x : World KeptTraffic). IsCast (departure x c.args.s) x.rooms c.in_ok-told.told) (sym c.prepare.ensures.same.world)
    c.in_ok-told.ensures.effects

pub returns-clause-did : goal.returns-clause-did
returns-clause-did c =
    let a = c.args.world.now in
    let b = c.prepare.new.self in
    did_then [] (departs (seen a) c.args.s Lost) 0 0 a b c.depart.new.self c.prepare.ensures.same
    (subst (λ (x : World KeptTraffic). Did (departs x c.args.s Lost) 0 b c.depart.new.self) c.prepare.ensures.same.world c.depart.ensures.did)

pub returns-clause-hosts : goal.returns-clause-hosts
returns-clause-hosts c =
    hosts_by c.args.world.now.rooms c.args.world.now.rooms c.prepare.new.self.rooms c.depart.new.self.rooms c.in_ok-told.told.rooms refl
    (ap (λ (x : World KeptTraffic). x.rooms) c.prepare.ensures.same.world) c.depart.ensures.rooms c.in_ok-told.ensures.hosts

pub returns-clause-archives : goal.returns-clause-archives
returns-clause-archives c =
    subst (λ (x : Archives). Archived x (archives_of c.depart.new.self.archives))
    (ap (λ (x : World KeptTraffic). x.archives) c.prepare.ensures.same.world) c.depart.ensures.archives
