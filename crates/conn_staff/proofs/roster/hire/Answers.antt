use Rattle.std.proofs.Common.{All, [], arith, ap, length, map, sym, length-append, ◌∙◌, ◌∷◌, ◌≡◌, ◌≤◌}
use Rattle.std.specs.Prelude.{None, vec_capacity}
use Rattle.conn_staff.specs.Workers.{outfit_at, outfit_of, passes_at, source_of}
use Rattle.conn_staff.proofs.Steps.{fewer, fewer_all, gained, gained_all, map_length, one_more, room_next}
use Rattle.conn_staff.proofs.roster.hire.Goals as goal

pub loop-poller-preserved : goal.loop-poller-preserved
loop-poller-preserved g c =
    let inv = c.loop-poller.invariant in
    let post = c.in-Some.ensures.steps.0 in
    let bench = c.in-Some-next.ensures.cases.0 in
    let more = c.push_reserved.ensures.items in
    let posts = fewer _ _ _ _ post in
    let room = room_next _ _ _ _ _ _ _ _ _ _ bench post inv.benches in
    let sources = c.take_places.ensures.sources in
    let left = ap length (sym c.take_places.ensures.passes) in
    let long = ap length sources in
    let both = length-append (map (λ p. p.pass) c.take_places.new.places.items) c.take_places.new.left.rest.items in
    let taken = map_length _ _ (λ p. p.pass) c.take_places.new.places.items in
    let placed = map_length _ _ source_of c.take_places.new.places.items in
    let all = fewer_all _ _ (λ p. p.sources.items) _ _ _ post in
    let len = c.push_reserved.ensures.len in
    let kept = c.push_reserved.ensures.capacity in
    record {
      can_next = tt;
      is_finite = tt;
      passes = gained_all _ _ passes_at _ _ _ _ _ _ more c.take_places.ensures.passes inv.passes;
      posts = gained _ _ outfit_at _ _ _ _ _ _ more (ap (map outfit_of) post ∙ ap (λ l. (c.in-Some.field-0.poller, l) ∷ map outfit_of c.next.new.self.rest.items) (sym sources)) inv.posts;
      enough = omega (arith, inv.enough, all, left, both, taken, placed, long);
      benches = room.1;
      busy = one_more _ (λ w. All (λ p. p.busy ≡ None) w.places.items) _ _ _ more inv.busy c.take_places.ensures.busy;
      said = one_more _ (λ w. w.said ≡ []) _ _ _ more inv.said room.0.said;
      sources = one_more _ (λ w. (w.sources.items ≡ []) × (length w.places.items ≤ vec_capacity w.sources)) _ _ _ more inv.sources
          (room.0.sources, omega (arith, room.0.sources_room, long, placed));
      room = omega (arith, inv.room, posts, len, kept);
    }
