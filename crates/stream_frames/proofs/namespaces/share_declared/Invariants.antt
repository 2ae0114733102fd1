use Rattle.std.proofs.Common.{◌≡◌, vec_len, vec_capacity}
use Rattle.stream_frames.proofs.namespaces.share_declared.Given as goal

abbrev pub invariant-loop-i : goal.invariant-loop-i
invariant-loop-i l = record {
  items : l.attributes.items ≡ l.fn.attributes.items;
  len : vec_len l.attributes ≡ vec_len l.fn.attributes;
  capacity : vec_capacity l.attributes ≡ vec_capacity l.fn.attributes;
}
