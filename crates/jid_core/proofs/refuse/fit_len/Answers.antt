use Rattle.std.proofs.Common.{sym, ap, ◌∙◌, arith, length, length-append}
use Rattle.std.specs.Char.{encode_utf8}
use Rattle.std.proofs.lemmas.Str.{IsUtf8-past_char, length-encode}
use Rattle.jid_core.specs.Preparation.{is_refused}
use Rattle.jid_core.proofs.FitLemmas.{fit_len-refused, fit_len-more, fit_len-end}
use Rattle.jid_core.proofs.refuse.fit_len.Goals as goal

pub returns-then-is_refused : goal.returns-then-is_refused
returns-then-is_refused c =
    let zero = fit_len-refused (is_refused c.args.which) c.loop-c.c-iterator.rest.now c.next.new.self.rest.now c.in-Some.c c.loop-c.invariant.text
    c.in-Some.ensures.steps.0
    (sym c.is_refused.ensures ∙ c.if-is_refused.true) in
    omega (arith, zero, c.loop-c.invariant.rest)

pub loop-c-preserved : goal.loop-c-preserved
loop-c-preserved c =
    let before = c.loop-c.c-iterator.rest.now in
    let after = c.next.new.self.rest.now in
    let more = fit_len-more (is_refused c.args.which) before after c.in-Some.c c.loop-c.invariant.text c.in-Some.ensures.steps.0 (sym c.is_refused.ensures
    ∙ c.if-is_refused.false) in
    record {
      text = IsUtf8-past_char before after c.in-Some.c c.loop-c.invariant.text c.in-Some.ensures.steps.0;
      rest = omega (arith, more, c.loop-c.invariant.rest, c.len_utf8-len.ensures.value);
      within = omega (
        arith,
        c.loop-c.invariant.within,
        ap length c.in-Some.ensures.steps.0,
        length-append (encode_utf8 c.in-Some.c) after,
        length-encode c.in-Some.c,
        c.len_utf8-len.ensures.value,
      );
    }

pub returns : goal.returns
returns c =
    let zero = fit_len-end (is_refused c.args.which) c.loop-c.c-iterator.rest.now c.in-None.ensures.steps.0.0 in
    omega (arith, zero, c.loop-c.invariant.rest)
