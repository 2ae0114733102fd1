use Rattle.std.proofs.Common.{◌≡◌, List, [], sym, subst, ◌∙◌, arith}
use Rattle.std.proofs.lemmas.List.{nil_from_length}
use Rattle.stanza_model.specs.declared.effect.Effect.{Effect}
use Rattle.house_model.specs.Fitting.{AreSmall}
use Rattle.house_world.specs.Hosting.{but_rooms}
use Rattle.house_world.specs.Readiness.{AreFilable, AreNotable, AreReady}
use Rattle.house_world.specs.Worlds.{Did}
use Rattle.house_world.proofs.DidLemmas.{did_none}
use Rattle.house_world.proofs.FilingLemmas.{filable_first}
use Rattle.house_world.proofs.ReadyLemmas.{applied_first, ready_first, ready_rest}
use Rattle.house_world.proofs.StayLemmas.{stays_then}
use Rattle.house_world.proofs.WorldLemmas.{few_later}
use Rattle.house_world.proofs.world.World.apply_all.Goals as goal

pub apply-requires-clause-ready : goal.apply-requires-clause-ready
apply-requires-clause-ready c =
    let t = c.loop-effect.self.table in
    ready_first c.in-Some.effect c.next.new.self.rest.items t
    (subst (λ (es : List Effect). AreReady es t) c.in-Some.ensures.steps.0 c.loop-effect.invariant.ready)

pub apply-requires-clause-places : goal.apply-requires-clause-places
apply-requires-clause-places c = λ user.
    let all = subst (λ (es : List Effect). AreNotable es c.loop-effect.self.book) c.in-Some.ensures.steps.0 c.loop-effect.invariant.places user in
    omega (arith, all)

pub apply-requires-clause-filable : goal.apply-requires-clause-filable
apply-requires-clause-filable c =
    filable_first c.in-Some.effect c.next.new.self.rest.items c.loop-effect.self.archives
    (subst (λ (es : List Effect). AreFilable es c.loop-effect.self.archives) c.in-Some.ensures.steps.0 c.loop-effect.invariant.filable)

pub loop-effect-preserved : goal.loop-effect-preserved
loop-effect-preserved c =
    let before = c.loop-effect.self in
    let after = c.apply.new.self in
    let e = c.in-Some.effect in
    let more = c.next.new.self.rest.items in
    let first = c.in-Some.ensures.steps.0 in
    let was = c.loop-effect.invariant in
    let did = c.apply.ensures.did in
    record {
      can_next = was.can_next;
      is_finite = was.is_finite;
      answered = did.answered ∙ (was.answered ∙ sym did.lines);
      tied = did.tied;
      small = few_later _ _ after.table (did.few _ was.small) (omega arith);
      ready = ready_rest e more before.table after.table
          (subst (λ (es : List Effect). AreReady es before.table) first was.ready) c.apply.ensures.room;
      short = (subst AreSmall first was.short).1;
      places = λ user.
          let all = subst (λ (es : List Effect). AreNotable es before.book) first was.places user in
          let left = c.apply.ensures.places user in
          omega (arith, all, left);
      filable = c.apply.ensures.archives more (subst (λ (es : List Effect). AreFilable es before.archives) first was.filable);
      stays = stays_then c.args.self.now before after was.stays c.apply.ensures.stays;
      all = λ b rest. was.all b
          (applied_first e more c.loop-effect.effect-iterator.rest.items before after b first did rest);
    }

pub returns-clause-did : goal.returns-clause-did
returns-clause-did c =
    let a = c.args.self.now in
    let b = c.loop-effect.self in
    let rest = c.loop-effect.effect-iterator.rest in
    let done : rest.items ≡ [] = nil_from_length rest.items (sym rest.ok.0 ∙ c.in-None.ensures.steps.0) in
    c.loop-effect.invariant.all b
    (subst (λ (es : List Effect). Did (but_rooms es) 0 b b) (sym done) (did_none b c.loop-effect.invariant.tied))
