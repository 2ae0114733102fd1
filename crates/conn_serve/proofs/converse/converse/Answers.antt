use Rattle.std.proofs.Common.{refl, sym, subst, ◌∙◌, ℕ}
use Rattle.conn_serve.specs.Serving.{IsStanding}
use Rattle.conn_serve.proofs.Passing.{came_both, exhausted_both, over_both, stands_on}
use Rattle.conn_serve.proofs.Turning.{rests_here, starts_both, starts_same}
use Rattle.conn_serve.proofs.converse.converse.Goals as goal

pub loop-init : goal.loop-init
loop-init g c = record {
  can_next = tt;
  is_finite = tt;
  pass = c.requires.pass;
  line = refl;
  history = starts_same _;
  mark = refl;
  said = c.requires.said;
  stands = c.requires.stands;
  came = λ o p line accounts at. rests_here o _ p _ _ _ at;
}

pub loop-preserved-in-Goes : goal.loop-preserved-in-Goes
loop-preserved-in-Goes g c =
    let stands = c.loop.invariant.stands in
    let passed = rw c.loop.invariant.line at c.in-Goes.ensures.passed in
    record {
      can_next = tt;
      is_finite = tt;
      pass = c.in-Goes.ensures.pass;
      line = c.in-Goes.ensures.line ∙ c.loop.invariant.line;
      history = starts_both _ _ _ c.loop.invariant.history c.in-Goes.ensures.history;
      mark = c.in-Goes.ensures.mark ∙ c.loop.invariant.mark;
      said = c.in-Goes.ensures.said;
      stands = subst (λ (w : ℕ). IsStanding w c.args.accounts.now c.round.new.self.flow c.round.new.self.ears c.round.new.self.left)
          (sym c.in-Goes.ensures.line)
          (stands_on _ _ _ _ _ _ _ _ _ _ stands (c.in-Goes.ensures.passed stands.site stands.place stands.line_is stands.accounts_are stands.at).0);
      came = λ o p line accounts at.
          came_both o _ _ _ _ _ _ _ _ _ _ (c.loop.invariant.came o p line accounts at) (λ q here. (passed o q line accounts here).0);
    }

pub loop-preserved-in-Later : goal.loop-preserved-in-Later
loop-preserved-in-Later g c =
    let stands = c.loop.invariant.stands in
    let passed = rw c.loop.invariant.line at c.in-Later.ensures.passed in
    record {
      can_next = tt;
      is_finite = tt;
      pass = c.in-Later.ensures.pass;
      line = c.in-Later.ensures.line ∙ c.loop.invariant.line;
      history = starts_both _ _ _ c.loop.invariant.history c.in-Later.ensures.history;
      mark = c.in-Later.ensures.mark ∙ c.loop.invariant.mark;
      said = c.in-Later.ensures.said;
      stands = subst (λ (w : ℕ). IsStanding w c.args.accounts.now c.round.new.self.flow c.round.new.self.ears c.round.new.self.left)
          (sym c.in-Later.ensures.line)
          (stands_on _ _ _ _ _ _ _ _ _ _ stands (c.in-Later.ensures.passed stands.site stands.place stands.line_is stands.accounts_are stands.at).0);
      came = λ o p line accounts at.
          came_both o _ _ _ _ _ _ _ _ _ _ (c.loop.invariant.came o p line accounts at) (λ q here. (passed o q line accounts here).0);
    }

pub loop-preserved : goal.loop-preserved
loop-preserved g c =
    let stands = c.loop.invariant.stands in
    let passed = rw c.loop.invariant.line at c.in-More.ensures.passed in
    record {
      can_next = tt;
      is_finite = tt;
      pass = c.in-More.ensures.pass;
      line = c.in-More.ensures.line ∙ c.loop.invariant.line;
      history = starts_both _ _ _ c.loop.invariant.history c.in-More.ensures.history;
      mark = c.in-More.ensures.mark ∙ c.loop.invariant.mark;
      said = c.in-More.ensures.said;
      stands = subst (λ (w : ℕ). IsStanding w c.args.accounts.now c.round.new.self.flow c.round.new.self.ears c.round.new.self.left)
          (sym c.in-More.ensures.line)
          (stands_on _ _ _ _ _ _ _ _ _ _ stands (c.in-More.ensures.passed stands.site stands.place stands.line_is stands.accounts_are stands.at).0);
      came = λ o p line accounts at.
          came_both o _ _ _ _ _ _ _ _ _ _ (c.loop.invariant.came o p line accounts at) (λ q here. (passed o q line accounts here).0);
    }

pub returns-in-Ends-clause-ended : goal.returns-in-Ends-clause-ended
returns-in-Ends-clause-ended g c = λ o p line accounts at.
    let passed = rw c.loop.invariant.line at c.in-Ends.ensures.passed in
    over_both o _ _ _ _ _ _ _ _ _ (c.loop.invariant.came o p line accounts at) (λ q here. passed o q line accounts here)

pub returns-in-Exhausts-clause-ended : goal.returns-in-Exhausts-clause-ended
returns-in-Exhausts-clause-ended g c = λ o p line accounts at.
    let passed = rw c.loop.invariant.line at c.in-Exhausts.ensures.passed in
    exhausted_both o _ _ _ _ _ _ _ (c.loop.invariant.came o p line accounts at) (λ q here. passed o q line accounts here)
