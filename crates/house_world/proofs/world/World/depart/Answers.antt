use Rattle.std.proofs.Common.{◌≡◌, arith, ◌∷◌, [], List, map, sym, ap, subst, ◌∙◌}
use Rattle.std.specs.Prelude.{unwrap_or}
use Rattle.stanza_model.specs.declared.effect.Effect as stanza
use Rattle.archive_table.specs.Tables as archive
use Rattle.archive_table.specs.Tables.{archives_of}
use Rattle.muc_service.specs.Casting.{after, cast}
use Rattle.muc_service.specs.Rooms.{Rooms}
use Rattle.session_table.specs.Tables.{session_of}
use Rattle.house_model.specs.Effects.{On}
use Rattle.house_model.specs.Routing.{departure}
use Rattle.house_model.specs.Sessions.{End, Part}
use Rattle.house_model.specs.Steps.{effect_of}
use Rattle.house_model.proofs.KeptRows.{quiet}
use Rattle.house_world.specs.Hosting.{filed_all}
use Rattle.house_world.specs.Readiness.{needed}
use Rattle.house_world.specs.Worlds.{Did, seen}
use Rattle.house_world.proofs.DepartLemmas.{some_of}
use Rattle.house_world.proofs.DidLemmas.{did_then}
use Rattle.house_world.proofs.QuietLemmas.{cast_quiet, quiet_archived, quiet_filable}
use Rattle.house_world.proofs.StayLemmas.{ended_over, stays_then}
use Rattle.house_world.proofs.WorldLemmas.{few_later}
use Rattle.house_world.proofs.world.World.depart.Goals as goal

pub run-requires-clause-answered : goal.run-requires-clause-answered
run-requires-clause-answered c =
    let did = c.end.ensures.did in
    did.answered ∙ (c.requires.answered ∙ sym did.lines)

pub run-requires-clause-small : goal.run-requires-clause-small
run-requires-clause-small c = few_later _ _ c.end.new.self.table (c.end.ensures.did.few _ c.requires.small) (omega arith)

pub run-requires-clause-ready : goal.run-requires-clause-ready
run-requires-clause-ready c = λ s. c.end.ensures.queues (needed s c.args.told.effects.items) s (c.requires.ready s)

pub run-requires-clause-rooms : goal.run-requires-clause-rooms
run-requires-clause-rooms c =
    subst (λ (r : Rooms). unwrap_or c.args.told.rooms r ≡ after r c.args.told.effects.items) (sym c.end.ensures.rooms) c.requires.told.put

pub run-requires-clause-filable : goal.run-requires-clause-filable
run-requires-clause-filable c =
    let a = c.args.self.now in
    quiet_filable c.args.told.effects.items c.end.new.self.archives
    (cast_quiet (departure (seen a) c.args.s) c.args.told.effects.items a.rooms c.requires.told.effects
    (quiet (seen a) c.args.s))

pub returns-clause-archives : goal.returns-clause-archives
returns-clause-archives c =
    let a = c.args.self.now in
    let es = c.args.told.effects.items in
    quiet_archived es (archives_of a.archives) (archives_of c.remove.new.self.archives)
    (cast_quiet (departure (seen a) c.args.s) es a.rooms c.requires.told.effects (quiet (seen a) c.args.s))
    (ap archives_of c.remove.ensures.archives
    ∙ (c.run.ensures.archives ∙ ap (λ (t : archive.TableRecord). filed_all es (archives_of t)) c.end.ensures.archives))

pub remove-requires-clause-over : goal.remove-requires-clause-over
remove-requires-clause-over c =
    let who = some_of (session_of c.args.s c.args.self.now.table) c.requires.there in
    c.run.ensures.stays.over c.args.s
    (ended_over c.args.self.now c.end.new.self c.args.s who.0 c.args.cause c.requires.tied who.1 c.end.ensures.did)

pub returns-clause-did : goal.returns-clause-did
returns-clause-did c =
    let a = c.args.self.now in
    let s = c.args.s in
    let es : List stanza.Effect = cast a.rooms (departure (seen a) s) in
    let middle : Did (map effect_of es) 0 c.end.new.self c.run.new.self =
    subst (λ (xs : List stanza.Effect). Did (map effect_of xs) 0 c.end.new.self c.run.new.self) c.requires.told.effects c.run.ensures.did in
    did_then (On s (End c.args.cause) ∷ map effect_of es) (On s Part ∷ []) 0 0 a c.run.new.self c.remove.new.self
    (did_then (On s (End c.args.cause) ∷ []) (map effect_of es) 0 0 a c.end.new.self c.run.new.self c.end.ensures.did middle)
    c.remove.ensures.did

pub returns-clause-others : goal.returns-clause-others
returns-clause-others c = λ w d u at.
    let kept = (stays_then c.args.self.now c.end.new.self c.run.new.self c.end.ensures.stays c.run.ensures.stays).logged w d u at in
    let last = c.remove.ensures.others w d u kept.0 in
    (last.0, last.1 ∙ kept.1)

pub returns-clause-room : goal.returns-clause-room
returns-clause-room c =
    let same = (stays_then c.args.self.now c.end.new.self c.run.new.self c.end.ensures.stays c.run.ensures.stays).spare in
    omega (arith, same, c.remove.ensures.room)

pub returns-clause-rooms : goal.returns-clause-rooms
returns-clause-rooms c =
    c.remove.ensures.rooms ∙ (c.run.ensures.rooms ∙ ap (λ (r : Rooms). unwrap_or c.args.told.rooms r) c.end.ensures.rooms)
