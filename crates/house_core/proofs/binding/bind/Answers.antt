use Rattle.std.proofs.Common.{◌∷◌, [], ◌≤◌, List, ℕ, length, sym, subst, ◌∙◌}
use Rattle.jid_core.specs.Addresses.{address_text}
use Rattle.session_table.specs.Tables.{conn_of, line_of}
use Rattle.house_model.specs.declared.answer.Answer.TheVariants as answer
use Rattle.house_model.specs.Answers.{answer_text}
use Rattle.house_model.specs.Effects.{At, Say}
use Rattle.house_world.specs.Worlds.{Did}
use Rattle.house_core.proofs.BoundLemmas.{refused_fits, refused_ends, made_ends, begun_did, said_archives}
use Rattle.house_core.proofs.binding.bind.Goals as goal

pub say-requires-clause-short : goal.say-requires-clause-short
say-requires-clause-short c =
    subst (λ (id : List ℕ). length (answer_text (answer.Refused id)) ≤ 524288) (sym c.in_ok-id.ensures.copy) (refused_fits c.args.id.now c.requires.id)

pub returns-clause-done : goal.returns-clause-done
returns-clause-done c = λ k world most.
    refused_ends k c.args.w (conn_of (line_of c.args.w c.args.world.now.table)) c.args.address c.args.id.now c.args.world.now c.say.new.self
    (sym (c.has_place.ensures.place k world most) ∙ c.if-has_place.false)
    (subst (λ (id : List ℕ). Did (At c.args.w (Say (answer.Refused id)) ∷ []) 0 c.args.world.now c.say.new.self) c.in_ok-id.ensures.copy c.say.ensures)

pub returns-then-has_place-clause-done : goal.returns-then-has_place-clause-done
returns-then-has_place-clause-done c = λ k world most.
    let a = c.args.world.now in
    made_ends k c.args.w (conn_of (line_of c.args.w a.table)) c.args.address c.args.id.now a c.bind_at.new.world
    (sym (c.has_place.ensures.place k world most) ∙ c.if-has_place.true)
    (begun_did k c.args.w c.args.address (answer.Bound c.args.id.now (address_text c.args.address)) a c.bind_at.new.world world
    c.in_ok-bind_at.ensures.done)

pub returns-clause-archives : goal.returns-clause-archives
returns-clause-archives c = said_archives c.args.w _ c.args.world.now c.say.new.self c.say.ensures
