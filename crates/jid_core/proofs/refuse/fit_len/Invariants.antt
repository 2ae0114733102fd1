use Rattle.std.proofs.Common.{◌≡◌, ◌+◌, length, chars, IsUtf8}
use Rattle.jid_core.specs.Preparation.{is_refused, fit_len}
use Rattle.jid_core.proofs.refuse.fit_len.Given as goal

abbrev pub invariant-loop-c : goal.invariant-loop-c
invariant-loop-c l = record {
  text : IsUtf8 l.c-iterator.rest.now;
  rest : l.len + fit_len (is_refused l.which) (chars l.c-iterator.rest.now) ≡ fit_len (is_refused l.which) (chars l.text);
  within : l.len + length l.c-iterator.rest.now ≡ length l.text;
}
