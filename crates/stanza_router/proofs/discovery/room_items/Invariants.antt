use Rattle.std.proofs.Common.{◌≡◌, ◌≤◌, ◌++◌, map, drop}
use Rattle.stanza_router.specs.Discovery.{fitting, most_items, node_of, room_item}
use Rattle.stanza_router.proofs.discovery.room_items.Given as goal

abbrev pub invariant-loop-room : goal.invariant-loop-room
invariant-loop-room l = record {
  few : l.left ≤ most_items;
  made : l.nodes.items ++ map node_of (fitting l.left (map room_item (drop l.room-index l.rooms)))
      ≡ map node_of (fitting most_items (map room_item l.fn.rooms));
}
