use Rattle.std.proofs.Common.{All, [], ap, ◌∙◌, ◌≡◌, ◌≤◌, length, map, arith, subst, sym}
use Rattle.std.specs.List.{list_any}
use Rattle.std.specs.Prelude.{vec_capacity}
use Rattle.outside.specs.Posts.{all_of}
use Rattle.conn_staff.specs.Staffs.{worked_by}
use Rattle.conn_staff.specs.Workers.{IsReady, outfit_at, outfit_of, passes_at}
use Rattle.conn_staff.proofs.Crews.{all_emptied, all_ready, all_staffed, all_wide, still_came, still_many, still_passes}
use Rattle.conn_staff.proofs.Gathering.{written}
use Rattle.conn_staff.proofs.Steps.{map_length}
use Rattle.conn_staff.proofs.staff.serve_at.Goals as goal

pub tend_all-requires-clause-ready : goal.tend_all-requires-clause-ready
tend_all-requires-clause-ready g c κs within =
    let h = c.hire.ensures in
    subst (All (IsReady g.row.P.Denot g.row.P-Link.Denot g.row.C.Denot g.row.I.Denot g.P.Poller.places g.P.Poller.taken c.args.hall)) (sym c.as_mut_slice.ensures.value)
    (all_ready g.row.P.Denot g.row.P-Link.Denot g.row.C.Denot g.row.I.Denot g.P.Poller.places g.P.Poller.taken c.args.hall c.hire.new.workers.items c.args.passes.items c.args.posts.items h.passes h.posts
    c.requires.came c.requires.wide c.requires.few c.requires.free h.busy h.said h.sources)

pub tend_all-requires-clause-some : goal.tend_all-requires-clause-some
tend_all-requires-clause-some g c κs within =
    let same = ap length c.hire.ensures.posts in
    let workers = map_length _ _ outfit_at c.hire.new.workers.items in
    let posts = map_length _ _ outfit_of c.args.posts.items in
    let some = c.requires.some in
    let is = ap length c.as_mut_slice.ensures.value in
    omega (arith, same, workers, posts, some, is)

pub dismiss-worked-requires-clause-room : goal.dismiss-worked-requires-clause-room
dismiss-worked-requires-clause-room g c =
    let now = c.tend_all.new.workers in
    let olds = c.as_mut_slice.result.now in
    let is = c.as_mut_slice.ensures.value in
    let many = still_many g.row.P.Denot g.row.P-Link.Denot g.row.C.Denot g.row.I.Denot g.P.Poller.tapes g.P.Poller.came g.P.Poller.links g.P.Poller.faults g.P.Poller.quota
    g.C.Clock.told g.I.Dice.drawn g.I.Dice.faults
    c.args.hall c.args.accounts.now olds now c.tend_all.ensures.worked in
    let len = c.as_mut_slice.ensures.len in
    let back = written _ c.hire.new.workers.len now _ (omega (arith, many, len)) in
    let left = still_passes g.row.P.Denot g.row.P-Link.Denot g.row.C.Denot g.row.I.Denot g.P.Poller.tapes g.P.Poller.came g.P.Poller.links g.P.Poller.faults g.P.Poller.quota
    g.C.Clock.told g.I.Dice.drawn g.I.Dice.faults
    c.args.hall c.args.accounts.now olds now c.args.passes.items c.tend_all.ensures.worked (ap (λ l. all_of (map passes_at l)) is ∙ c.hire.ensures.passes) in
    let same = ap length c.hire.ensures.posts in
    let workers = map_length _ _ outfit_at c.hire.new.workers.items in
    let posts = map_length _ _ outfit_of c.args.posts.items in
    let lens = ap length is in
    subst (λ l. (length (all_of (map passes_at l)) ≤ vec_capacity c.args.room.passes) × (length l ≤ vec_capacity c.args.room.posts)) (sym back)
    (omega (arith, left, c.requires.done.1), omega (arith, many, lens, same, workers, posts, c.requires.back.1))

pub dismiss-worked-requires-clause-sources : goal.dismiss-worked-requires-clause-sources
dismiss-worked-requires-clause-sources g c =
    let now = c.tend_all.new.workers in
    let olds = c.as_mut_slice.result.now in
    let is = c.as_mut_slice.ensures.value in
    let many = still_many g.row.P.Denot g.row.P-Link.Denot g.row.C.Denot g.row.I.Denot g.P.Poller.tapes g.P.Poller.came g.P.Poller.links g.P.Poller.faults g.P.Poller.quota
    g.C.Clock.told g.I.Dice.drawn g.I.Dice.faults
    c.args.hall c.args.accounts.now olds now c.tend_all.ensures.worked in
    let len = c.as_mut_slice.ensures.len in
    let back = written _ c.hire.new.workers.len now _ (omega (arith, many, len)) in
    subst (All (λ w. (w.sources.items ≡ []) × (length w.places.items ≤ vec_capacity w.sources))) (sym back)
    (all_emptied g.row.P.Denot g.row.P-Link.Denot g.row.C.Denot g.row.I.Denot g.P.Poller.places g.P.Poller.taken now c.tend_all.ensures.fit)

pub close-requires-clause-all : goal.close-requires-clause-all
close-requires-clause-all g c =
    let now = c.tend_all.new.workers in
    let olds = c.as_mut_slice.result.now in
    let is = c.as_mut_slice.ensures.value in
    let many = still_many g.row.P.Denot g.row.P-Link.Denot g.row.C.Denot g.row.I.Denot g.P.Poller.tapes g.P.Poller.came g.P.Poller.links g.P.Poller.faults g.P.Poller.quota
    g.C.Clock.told g.I.Dice.drawn g.I.Dice.faults
    c.args.hall c.args.accounts.now olds now c.tend_all.ensures.worked in
    let len = c.as_mut_slice.ensures.len in
    let back = written _ c.hire.new.workers.len now _ (omega (arith, many, len)) in
    let left = still_passes g.row.P.Denot g.row.P-Link.Denot g.row.C.Denot g.row.I.Denot g.P.Poller.tapes g.P.Poller.came g.P.Poller.links g.P.Poller.faults g.P.Poller.quota
    g.C.Clock.told g.I.Dice.drawn g.I.Dice.faults
    c.args.hall c.args.accounts.now olds now c.args.passes.items c.tend_all.ensures.worked (ap (λ l. all_of (map passes_at l)) is ∙ c.hire.ensures.passes) in
    let lens = ap length (c.dismiss-worked.ensures.passes ∙ ap (λ l. all_of (map passes_at l)) back) in
    let whole = c.dismiss-worked.new.passes.ok.0 in
    omega (arith, whole, lens, left, c.requires.lines)

pub close-requires-clause-passes : goal.close-requires-clause-passes
close-requires-clause-passes g c =
    let now = c.tend_all.new.workers in
    let olds = c.as_mut_slice.result.now in
    let is = c.as_mut_slice.ensures.value in
    let many = still_many g.row.P.Denot g.row.P-Link.Denot g.row.C.Denot g.row.I.Denot g.P.Poller.tapes g.P.Poller.came g.P.Poller.links g.P.Poller.faults g.P.Poller.quota
    g.C.Clock.told g.I.Dice.drawn g.I.Dice.faults
    c.args.hall c.args.accounts.now olds now c.tend_all.ensures.worked in
    let len = c.as_mut_slice.ensures.len in
    let back = written _ c.hire.new.workers.len now _ (omega (arith, many, len)) in
    still_came g.row.P.Denot g.row.P-Link.Denot g.row.C.Denot g.row.I.Denot g.P.Poller.tapes g.P.Poller.came g.P.Poller.links g.P.Poller.faults g.P.Poller.quota
    g.C.Clock.told g.I.Dice.drawn g.I.Dice.faults
    c.args.hall c.args.accounts.now olds now _ c.tend_all.ensures.worked (c.dismiss-worked.ensures.passes ∙ ap (λ l. all_of (map passes_at l)) back)

pub returns-clause-staffed : goal.returns-clause-staffed
returns-clause-staffed g c =
    let now = c.tend_all.new.workers in
    let olds = c.as_mut_slice.result.now in
    let is = c.as_mut_slice.ensures.value in
    let many = still_many g.row.P.Denot g.row.P-Link.Denot g.row.C.Denot g.row.I.Denot g.P.Poller.tapes g.P.Poller.came g.P.Poller.links g.P.Poller.faults g.P.Poller.quota
    g.C.Clock.told g.I.Dice.drawn g.I.Dice.faults
    c.args.hall c.args.accounts.now olds now c.tend_all.ensures.worked in
    let len = c.as_mut_slice.ensures.len in
    let back = written _ c.hire.new.workers.len now _ (omega (arith, many, len)) in
    all_staffed g.row.P.Denot g.row.P-Link.Denot g.row.C.Denot g.row.I.Denot g.P.Poller.tapes g.P.Poller.came g.P.Poller.links g.P.Poller.faults g.P.Poller.quota
    g.C.Clock.told g.I.Dice.drawn g.I.Dice.faults
    c.args.hall c.args.accounts.now olds now c.args.passes.items c.dismiss-worked.new.passes.items c.args.posts.items c.dismiss-worked.new.posts.items
    c.dismiss-worked.result _ c.tend_all.ensures.worked (ap (λ l. all_of (map passes_at l)) is ∙ c.hire.ensures.passes)
    (ap (map outfit_at) is ∙ c.hire.ensures.posts)
    (c.dismiss-worked.ensures.passes ∙ ap (λ l. all_of (map passes_at l)) back) (c.dismiss-worked.ensures.posts ∙ ap (map outfit_at) back)
    c.requires.numbers c.requires.fresh (c.dismiss-worked.ensures.worked ∙ ap (λ l. worked_by (list_any (λ w. w.failed) l)) back) c.close.ensures

pub returns-clause-wide : goal.returns-clause-wide
returns-clause-wide g c =
    let now = c.tend_all.new.workers in
    let olds = c.as_mut_slice.result.now in
    let is = c.as_mut_slice.ensures.value in
    let many = still_many g.row.P.Denot g.row.P-Link.Denot g.row.C.Denot g.row.I.Denot g.P.Poller.tapes g.P.Poller.came g.P.Poller.links g.P.Poller.faults g.P.Poller.quota
    g.C.Clock.told g.I.Dice.drawn g.I.Dice.faults
    c.args.hall c.args.accounts.now olds now c.tend_all.ensures.worked in
    let len = c.as_mut_slice.ensures.len in
    let back = written _ c.hire.new.workers.len now _ (omega (arith, many, len)) in
    all_wide g.row.P.Denot g.row.P-Link.Denot g.row.C.Denot g.row.I.Denot g.P.Poller.places g.P.Poller.taken now c.dismiss-worked.new.posts.items
    (c.dismiss-worked.ensures.posts ∙ ap (map outfit_at) back) c.tend_all.ensures.fit
