use Rattle.std.proofs.Common.{◌≡◌, sym, ap, subst, ◌∙◌}
use Rattle.archive_table.specs.Archives.{Archives}
use Rattle.archive_table.specs.Tables.{archives_of}
use Rattle.session_table.specs.Tables.{line_of}
use Rattle.house_model.specs.States.{World}
use Rattle.house_model.specs.Traffic.{KeptTraffic}
use Rattle.house_world.specs.Hosting.{Archived}
use Rattle.house_core.proofs.BoundLemmas.{logged_is, settled_did}
use Rattle.house_core.proofs.binding.settle.Goals as goal

pub returns-clause-did : goal.returns-clause-did
returns-clause-did c =
    let logged = logged_is (line_of c.args.w c.args.world.now.table) c.requires.logged in
    settled_did c.args.w logged.0 logged.1 c.args.address c.args.answer c.args.world.now c.replace.new.world c.begin.new.self c.say.new.self logged.2
    c.replace.ensures.did c.replace.ensures.others c.begin.ensures.did c.say.ensures

pub returns-clause-rooms : goal.returns-clause-rooms
returns-clause-rooms c =
    ap (λ (x : World KeptTraffic). x.rooms) c.say.ensures.world
    ∙ (ap (λ (x : World KeptTraffic). x.rooms) c.begin.ensures.did.world ∙ c.replace.ensures.rooms)

pub returns-clause-archives : goal.returns-clause-archives
returns-clause-archives c =
    let now : archives_of c.say.new.self.archives ≡ archives_of c.replace.new.world.archives =
    ap (λ (x : World KeptTraffic). x.archives) c.say.ensures.world ∙ ap (λ (x : World KeptTraffic). x.archives) c.begin.ensures.did.world in
    subst (λ (x : Archives). Archived (archives_of c.args.world.now.archives) x) (sym now) c.replace.ensures.archives
