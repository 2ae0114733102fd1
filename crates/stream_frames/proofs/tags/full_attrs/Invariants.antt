use Rattle.std.proofs.Common.{◌≡◌, ◌≤◌, ◌+◌, ◌++◌, length, vec_len, vec_capacity}
use Rattle.std.specs.Vec.Iter.{into_iter_items}
use Rattle.stream_frames.specs.Filled.{attrs_in}
use Rattle.stream_grammar.specs.machine.Texts.{HaveTextNames}
use Rattle.stream_frames.proofs.tags.full_attrs.Given as goal

abbrev pub invariant-loop-attribute : goal.invariant-loop-attribute
invariant-loop-attribute l = record {
  built : l.room.items ++ attrs_in (into_iter_items l.spaces) (into_iter_items l.attribute-iterator) ≡ attrs_in l.fn.spaces.items l.fn.attributes.items;
  room : vec_len l.room + length (into_iter_items l.attribute-iterator) ≤ vec_capacity l.room;
  names : HaveTextNames (into_iter_items l.attribute-iterator);
}
