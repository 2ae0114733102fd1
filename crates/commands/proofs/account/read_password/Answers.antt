use Rattle.std.proofs.Common.{rules, arith, ◌∷◌, [], ◌++◌, length-append, refl}
use Rattle.std.proofs.lemmas.Result.{IfOk-weaker}
use Rattle.commands.proofs.Passwords.{at_most, begins_on, begins_same, kept_end, kept_feed, no_line, no_line_after}
use Rattle.commands.proofs.account.read_password.Goals as goal

pub returns-in-None-clause-read : goal.returns-in-None-clause-read
returns-in-None-clause-read g c =
    IfOk-weaker c.unless_empty.result _ _
    (λ kept h.
    kept_end (g.S.Source.left c.args.source.now) (g.S.Source.left c.loop-count.source) (g.S.Source.left c.read_byte.new.source) c.loop-count.password.items
    kept.items h.0 h.1
    c.loop-count.invariant.printable c.loop-count.invariant.few c.loop-count.invariant.begins (search rules))
    c.unless_empty.ensures.some

pub returns-in_err-read_byte-clause-few : goal.returns-in_err-read_byte-clause-few
returns-in_err-read_byte-clause-few g c =
    let front = c.loop-count.password.items in
    at_most 258 (g.S.Source.left c.args.source.now) (g.S.Source.left c.read_byte-then-byte-eq10.new.source) ((front ++ 10 ∷ []) ++ [])
    (omega (arith, length-append (front ++ 10 ∷ []) [], length-append front (10 ∷ []), c.loop-count.invariant.few))
    (begins_on (g.S.Source.left c.args.source.now) (g.S.Source.left c.read_byte.new.source) (g.S.Source.left c.read_byte-then-byte-eq10.new.source)
    (front ++ 10 ∷ []) []
    (begins_on (g.S.Source.left c.args.source.now) (g.S.Source.left c.loop-count.source) (g.S.Source.left c.read_byte.new.source) front (10 ∷ [])
    c.loop-count.invariant.begins (search rules))
    (begins_same (g.S.Source.left c.read_byte.new.source) (g.S.Source.left c.read_byte-then-byte-eq10.new.source) (search rules)))

pub returns-in-Some-2-clause-refused : goal.returns-in-Some-2-clause-refused
returns-in-Some-2-clause-refused g c =
    search (
      rules,
      no_line_after (g.S.Source.left c.args.source.now) (g.S.Source.left c.loop-count.source) (g.S.Source.left c.read_byte.new.source)
          (g.S.Source.left c.read_byte-then-byte-eq10.new.source) c.loop-count.password.items c.in-Some-2.field-0 c.loop-count.invariant.printable
          c.loop-count.invariant.begins
          (search rules) (search rules),
    )

pub returns-in-Some-2-clause-few : goal.returns-in-Some-2-clause-few
returns-in-Some-2-clause-few g c =
    let front = c.loop-count.password.items in
    at_most 258 (g.S.Source.left c.args.source.now) (g.S.Source.left c.read_byte-then-byte-eq10.new.source) ((front ++ 10 ∷ []) ++ c.in-Some-2.field-0 ∷ [])
    (omega (arith, length-append (front ++ 10 ∷ []) (c.in-Some-2.field-0 ∷ []), length-append front (10 ∷ []), c.loop-count.invariant.few))
    (begins_on (g.S.Source.left c.args.source.now) (g.S.Source.left c.read_byte.new.source) (g.S.Source.left c.read_byte-then-byte-eq10.new.source)
    (front ++ 10 ∷ [])
    (c.in-Some-2.field-0 ∷ [])
    (begins_on (g.S.Source.left c.args.source.now) (g.S.Source.left c.loop-count.source) (g.S.Source.left c.read_byte.new.source) front (10 ∷ [])
    c.loop-count.invariant.begins (search rules))
    (search rules))

pub returns-in-None-2-clause-read : goal.returns-in-None-2-clause-read
returns-in-None-2-clause-read g c =
    IfOk-weaker c.unless_empty-in-None-2.result _ _
    (λ kept h.
    kept_feed (g.S.Source.left c.args.source.now) (g.S.Source.left c.loop-count.source) (g.S.Source.left c.read_byte.new.source)
    (g.S.Source.left c.read_byte-then-byte-eq10.new.source) c.loop-count.password.items kept.items h.0 h.1 c.loop-count.invariant.printable
    c.loop-count.invariant.few
    c.loop-count.invariant.begins (search rules) (search rules))
    c.unless_empty-in-None-2.ensures.some

pub returns-then-not-fits-clause-refused : goal.returns-then-not-fits-clause-refused
returns-then-not-fits-clause-refused g c = (
  refl,
  no_line (g.S.Source.left c.args.source.now) (g.S.Source.left c.loop-count.source) (g.S.Source.left c.read_byte.new.source) c.loop-count.password.items
      c.in-Some.byte
      c.loop-count.invariant.printable c.loop-count.invariant.begins (search rules) (search rules) (search rules),
)

pub returns-then-not-fits-clause-few : goal.returns-then-not-fits-clause-few
returns-then-not-fits-clause-few g c =
    let front = c.loop-count.password.items in
    at_most 258 (g.S.Source.left c.args.source.now) (g.S.Source.left c.read_byte.new.source) (front ++ c.in-Some.byte ∷ [])
    (omega (arith, length-append front (c.in-Some.byte ∷ []), c.loop-count.invariant.few))
    (begins_on (g.S.Source.left c.args.source.now) (g.S.Source.left c.loop-count.source) (g.S.Source.left c.read_byte.new.source) front (c.in-Some.byte ∷ [])
    c.loop-count.invariant.begins (search rules))

pub returns-in_err-push-clause-few : goal.returns-in_err-push-clause-few
returns-in_err-push-clause-few g c =
    let front = c.loop-count.password.items in
    at_most 258 (g.S.Source.left c.args.source.now) (g.S.Source.left c.read_byte.new.source) (front ++ c.in-Some.byte ∷ [])
    (omega (arith, length-append front (c.in-Some.byte ∷ []), c.loop-count.invariant.few))
    (begins_on (g.S.Source.left c.args.source.now) (g.S.Source.left c.loop-count.source) (g.S.Source.left c.read_byte.new.source) front (c.in-Some.byte ∷ [])
    c.loop-count.invariant.begins (search rules))
