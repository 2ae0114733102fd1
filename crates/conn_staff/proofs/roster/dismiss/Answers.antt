use Rattle.std.proofs.Common.{[], arith, ap, length, map, sym, inl, inr, ◌∙◌, ◌∷◌, ◌≡◌, ◌≤◌}
use Rattle.std.specs.Prelude.{vec_capacity, ◌||◌}
use Rattle.std.specs.List.{list_any}
use Rattle.std.proofs.Common.{length-append}
use Rattle.conn_staff.specs.Workers.{outfit_at, outfit_of, passes_at}
use Rattle.conn_staff.proofs.Steps.{failed_next, fewer, fewer_all, gained, map_length, moved_all, the_first, the_rest}
use Rattle.conn_staff.proofs.roster.dismiss.Goals.{then-failed, else-failed}
use Rattle.conn_staff.proofs.roster.dismiss.Goals as goal

pub leave_places-requires-clause-room : goal.leave_places-requires-clause-room
leave_places-requires-clause-room g c =
    (the_first _ (λ w. (w.sources.items ≡ []) × (length w.places.items ≤ vec_capacity w.sources)) _ _ _ c.in-Some.ensures.steps.0
    c.loop-worker.invariant.sources).1

pub leave_places-requires-clause-passes_room : goal.leave_places-requires-clause-passes_room
leave_places-requires-clause-passes_room g c =
    let all = fewer_all _ _ passes_at _ _ _ c.in-Some.ensures.steps.0 in
    let as_many = map_length _ _ (λ p. p.pass) c.in-Some.worker.places.items in
    omega (arith, c.loop-worker.invariant.passes_room, all, as_many)

pub loop-worker-preserved : goal.loop-worker-preserved
loop-worker-preserved g c =
    let inv = c.loop-worker.invariant in
    let worker = c.in-Some.ensures.steps.0 in
    let more = c.push_reserved.ensures.items in
    let workers = fewer _ _ _ _ worker in
    let all = fewer_all _ _ passes_at _ _ _ worker in
    let long = ap length c.leave_places.ensures.passes in
    let both = length-append c.loop-worker.passes.items (passes_at c.in-Some.worker) in
    let any = ap (λ l. c.loop-worker.failed || list_any (λ w. w.failed) l) (sym worker) ∙ inv.any in
    let len = c.push_reserved.ensures.len in
    let kept = c.push_reserved.ensures.capacity in
    record {
      can_next = tt;
      is_finite = tt;
      passes = moved_all _ _ passes_at _ _ _ _ _ _ worker c.leave_places.ensures.passes inv.passes;
      posts = gained _ _ outfit_of _ _ _ _ _ _ more
          (ap (map outfit_at) worker ∙ ap (λ l. (c.in-Some.worker.poller, l) ∷ map outfit_at c.next.new.self.rest.items) (sym c.leave_places.ensures.sources))
          inv.posts;
      any = elim c.if-failed.branch [
        | then-failed w ↦ failed_next _ _ _ _ _ (inl (w.if-failed.true, w.failed-is ∙ w.if-failed.true)) any
        | else-failed w ↦ failed_next _ _ _ _ _ (inr (w.if-failed.false, w.failed-is)) any
      ];
      sources = the_rest _ (λ w. (w.sources.items ≡ []) × (length w.places.items ≤ vec_capacity w.sources)) _ _ _ worker inv.sources;
      passes_room = omega (arith, inv.passes_room, all, long, both, c.leave_places.ensures.room, c.leave_places.new.passes.ok.0, c.loop-worker.passes.ok.0);
      posts_room = omega (arith, inv.posts_room, workers, len, kept);
    }
