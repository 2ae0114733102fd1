use Rattle.std.proofs.Common.{ap, sym, ◌∙◌, ◌*◌, ℕ, arith}
use Rattle.conn_staff.proofs.Crews.{all_have_room, all_sources, some_lines}
use Rattle.conn_staff.proofs.Gathering.{at_opening}
use Rattle.conn_staff.proofs.staff.serve_posts.Goals as goal

pub returns-in_default-clause-wide : goal.returns-in_default-clause-wide
returns-in_default-clause-wide g c = λ k d within. c.requires.pollers k d within ∙ sym (c.requires.sources k d within)

pub start-requires-clause-some : goal.start-requires-clause-some
start-requires-clause-some g c = some_lines c.args.workers c.args.places c.requires.some.0 c.requires.some.1

pub serve_at-back-requires-clause-pairs : goal.serve_at-back-requires-clause-pairs
serve_at-back-requires-clause-pairs g c =
    let all = all_sources g.row.P.Denot g.row.P-Link.Denot g.row.C.Denot g.row.I.Denot c.args.places c.args.posts.items c.requires.sources in
    let lines = ap (λ (n : ℕ). n * c.args.places) c.requires.posts in
    let count = c.in-Ok-start.ensures.count in
    let whole = c.in-Ok-start.passes.ok.0 in
    omega (arith, all, lines, count, whole)

pub serve_at-back-requires-clause-benches : goal.serve_at-back-requires-clause-benches
serve_at-back-requires-clause-benches g c κs within =
    let count = c.in-Ok.ensures.count in
    let len = c.len.ensures in
    let whole = c.args.posts.ok.0 in
    all_have_room g.row.P.Denot g.row.P-Link.Denot g.row.C.Denot g.row.I.Denot c.args.places c.in-Ok.room.benches.items c.args.posts.items (omega (arith, count, len, whole)) c.in-Ok.ensures.benches
    c.requires.sources

pub returns-in-Ok-start-clause-staffed : goal.returns-in-Ok-start-clause-staffed
returns-in-Ok-start-clause-staffed g c = λ o stands. at_opening o _ _ _ _ _ _ (c.in-Ok-start.ensures.opening o stands) c.serve_at-back.ensures.staffed
