use Rattle.std.proofs.Common.{◌≡◌, sym, ap, subst, ◌∙◌, rules}
use Rattle.std.specs.Prelude.{Some, None, IfOk, slice_index_or}
use Rattle.stream_grammar.specs.machine.Reading.{Reading}
use Rattle.replay_script.specs.Deeds.{Framers, with_framer}
use Rattle.script_play.specs.Streams.{reading_at}
use Rattle.script_play.proofs.StreamLemmas.{with_set, any_default}
use Rattle.script_play.proofs.streams.Streams.take_out.Goals as goal

pub returns-in-Some-clause-reading : goal.returns-in-Some-clause-reading
returns-in-Some-clause-reading c =
    let held : slice_index_or c.reach.new.self.places.items c.args.w c.index_mut.result.now ≡ Some c.in-Some.place = search rules in
    let there : slice_index_or c.reach.new.self.places.items c.args.w None ≡ Some c.in-Some.place =
    any_default c.reach.new.self.places.items c.args.w None c.index_mut.result.now c.in_ok-reach.ensures.there ∙ held in
    sym (ap reading_at there) ∙ ap (λ (fs : Framers). fs c.args.w) c.reach.ensures.kept

pub returns-in-Some-clause-rest : goal.returns-in-Some-clause-rest
returns-in-Some-clause-rest c = λ s.
    with_set c.reach.new.self.places.items c.args.w c.take-taken.new.self s ∙ ap (with_framer c.args.w s) c.reach.ensures.kept

pub returns-in-None-clause-reading : goal.returns-in-None-clause-reading
returns-in-None-clause-reading c =
    let there : slice_index_or c.reach.new.self.places.items c.args.w None ≡ None = search rules in
    subst (λ (s : Reading). IfOk c.new.result (λ p. p.framer.reading ≡ s)) (sym (ap reading_at there) ∙ ap (λ (fs : Framers). fs c.args.w) c.reach.ensures.kept)
    c.new.ensures
