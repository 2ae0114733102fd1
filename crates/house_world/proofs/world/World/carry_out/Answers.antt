use Rattle.std.proofs.Common.{◌≡◌, [], ◌∷◌, map, sym, ap, subst, ◌∙◌}
use Rattle.std.specs.Prelude.{unwrap_or}
use Rattle.muc_service.specs.Casting.{after}
use Rattle.muc_service.specs.Rooms.{Rooms}
use Rattle.house_model.specs.Effects.{On}
use Rattle.house_model.specs.Sessions.{Act}
use Rattle.house_model.specs.Steps.{effect_of}
use Rattle.archive_table.specs.Tables as archive
use Rattle.archive_table.specs.Tables.{archives_of}
use Rattle.house_world.specs.Hosting.{filed_all}
use Rattle.house_world.specs.Readiness.{AreFilable, needed}
use Rattle.house_world.proofs.DidLemmas.{did_then}
use Rattle.house_world.proofs.ReadyLemmas.{some_stanza}
use Rattle.house_world.proofs.world.World.carry_out.Goals as goal

pub run-requires-clause-answered : goal.run-requires-clause-answered
run-requires-clause-answered c =
    let did = c.act.ensures.did some_stanza in
    did.answered ∙ (c.requires.answered ∙ sym did.lines)

pub run-requires-clause-tied : goal.run-requires-clause-tied
run-requires-clause-tied c = (c.act.ensures.did some_stanza).tied

pub run-requires-clause-small : goal.run-requires-clause-small
run-requires-clause-small c = (c.act.ensures.did some_stanza).few 18446744073709546614 c.requires.small

pub run-requires-clause-ready : goal.run-requires-clause-ready
run-requires-clause-ready c = λ s. c.act.ensures.room (needed s c.args.cast.effects.items) s (c.requires.ready s)

pub run-requires-clause-rooms : goal.run-requires-clause-rooms
run-requires-clause-rooms c =
    subst (λ (r : Rooms). unwrap_or c.args.cast.rooms r ≡ after r c.args.cast.effects.items) (sym c.act.ensures.rooms) c.requires.rooms

pub run-requires-clause-filable : goal.run-requires-clause-filable
run-requires-clause-filable c =
    subst (λ (t : archive.TableRecord). AreFilable c.args.cast.effects.items t) (sym c.act.ensures.archives) c.requires.filable

pub returns-clause-archives : goal.returns-clause-archives
returns-clause-archives c =
    c.run.ensures.archives ∙ ap (λ (t : archive.TableRecord). filed_all c.args.cast.effects.items (archives_of t)) c.act.ensures.archives

pub returns-clause-did : goal.returns-clause-did
returns-clause-did c = λ stanza.
    did_then (On c.args.s (Act stanza) ∷ []) (map effect_of c.args.cast.effects.items) 1 0
    c.args.self.now c.act.new.self c.run.new.self (c.act.ensures.did stanza) c.run.ensures.did

pub returns-clause-rooms : goal.returns-clause-rooms
returns-clause-rooms c = c.run.ensures.rooms ∙ ap (λ (r : Rooms). unwrap_or c.args.cast.rooms r) c.act.ensures.rooms
