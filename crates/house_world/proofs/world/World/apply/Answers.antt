use Rattle.std.proofs.Common.{rules, ◌∷◌, refl, subst}
use Rattle.stanza_model.specs.declared.effect.Effect.{Effect}
use Rattle.house_world.specs.Readiness.{AreFilable, needed_by}
use Rattle.house_world.proofs.FilingLemmas.{filable_same, silent_adds, user_filed}
use Rattle.house_world.proofs.HostLemmas.{silent_last}
use Rattle.house_world.proofs.ReadyLemmas.{spare_for, spare_less}
use Rattle.house_world.proofs.world.World.apply.Goals as goal

pub push-requires-clause-room : goal.push-requires-clause-room
push-requires-clause-room c = search (rules, spare_for)

pub returns-in-Set-clause-room : goal.returns-in-Set-clause-room
returns-in-Set-clause-room c = λ n s has.
    spare_less n (needed_by s c.args.effect) s c.set.new.self.table (c.set.ensures.room n s has)

pub returns-in-Keep-clause-archives : goal.returns-in-Keep-clause-archives
returns-in-Keep-clause-archives c =
    user_filed c.args.effect c.in-Keep.user c.in-Keep.peer c.in-Keep.text c.in-Keep.moment c.args.self.now.archives c.file.new.self
    c.in-Keep.is c.file.ensures.archives c.file.ensures.users c.file.ensures.rooms

pub returns-in-Set-clause-archives : goal.returns-in-Set-clause-archives
returns-in-Set-clause-archives c = λ more can.
    c.set.ensures.archives more (subst (λ (e : Effect). AreFilable (e ∷ more) c.args.self.now.archives) c.in-Set.is can)

pub returns-clause-did : goal.returns-clause-did
returns-clause-did c =
    silent_last c.args.effect c.args.self.now c.requires.tied c.in_default.not-Queue c.in_default.not-Keep c.in_default.not-Set

pub returns-clause-archives : goal.returns-clause-archives
returns-clause-archives c = λ more.
    filable_same c.args.effect more c.args.self.now.archives c.args.self.now.archives
    (silent_adds c.args.effect c.in_default.not-Queue c.in_default.not-Keep c.in_default.not-Set) refl
