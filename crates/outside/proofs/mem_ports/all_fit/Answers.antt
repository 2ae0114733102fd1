use Rattle.std.proofs.Common.{rules, arith, sym, ◌∙◌}
use Rattle.outside.specs.Posts.{fits}
use Rattle.outside.proofs.PostLemmas.{pass_few, pass_none, pass_one}
use Rattle.outside.proofs.mem_ports.all_fit.Goals as goal

pub returns-then-not-fits : goal.returns-then-not-fits
returns-then-not-fits c =
    sym
    (pass_none (fits c.args.places) c.args.count c.loop-k.k c.args.posts.now.items c.in-Some.post.now c.loop-k-test.true (search (rules, c.in-Some.ensures))
    (search (rules, c.in-Some.ensures)) (sym c.fits.ensures ∙ c.if-not-fits.true))
    ∙ c.loop-k.invariant.rest

pub returns-in-None : goal.returns-in-None
returns-in-None c =
    sym (pass_few (fits c.args.places) c.args.count c.loop-k.k c.args.posts.now.items c.loop-k-test.true (search (rules, arith, c.in-None.ensures)))
    ∙ c.loop-k.invariant.rest

pub loop-k-preserved : goal.loop-k-preserved
loop-k-preserved c = record {
  rest = sym
      (pass_one (fits c.args.places) c.args.count c.loop-k.k c.args.posts.now.items c.in-Some.post.now c.loop-k-test.true
      (search (rules, c.in-Some.ensures)) (search (rules, c.in-Some.ensures)) (sym c.fits.ensures ∙ c.if-not-fits.false))
      ∙ c.loop-k.invariant.rest;
}
