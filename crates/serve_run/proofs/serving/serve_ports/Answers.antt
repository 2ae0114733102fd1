use Rattle.std.proofs.Common.{ap, ◌∙◌, Some}
use Rattle.conn_staff.specs.Staffs.{post_told}
use Rattle.serve_run.specs.Services.{tally}
use Rattle.serve_run.proofs.Posts.{all_free, all_opened, all_placed, faults_told, given_told, length_told}
use Rattle.serve_run.proofs.Running.{ports_failed, ports_refused, ports_unserved, posts_ran}
use Rattle.serve_run.proofs.serving.serve_ports.Goals as goal

pub returns-in-Ok-clause-served : goal.returns-in-Ok-clause-served
returns-in-Ok-clause-served g c =
    let asked = c.args.serving.now in
    let same = c.serve_list-posts.ensures.same in
    let back = c.gather_pollers.ensures in
    let many = length_told _ _ _ g.P.Poller.Poller.places g.P.Poller.Poller.taken g.P.Poller.Poller.tapes g.P.Poller.Poller.came g.P.Poller.Poller.links
    g.P.Poller.Poller.faults g.P.Poller.Poller.quota g.P.Clock.Clock.told g.P.Dice.Dice.drawn g.P.Dice.Dice.faults c.in-Ok.posts.items asked.workers
    c.in-Ok.ensures.posts in
    let opened = all_opened _ _ _ g.P.Poller.Poller.places g.P.Poller.Poller.taken g.P.Poller.Poller.tapes g.P.Poller.Poller.came g.P.Poller.Poller.links
    g.P.Poller.Poller.faults g.P.Poller.Poller.quota g.P.Clock.Clock.told g.P.Dice.Dice.drawn g.P.Dice.Dice.faults asked.links asked.connections c.in-Ok.posts.items
    c.in-Ok.ensures.opened c.in-Ok.ensures.sources in
    let listened = back.address ∙ ap (λ t. t.address) same ∙ c.in-Ok.ensures.address ∙ ap Some c.in_ok-address.ensures in
    let given = given_told _ _ _ g.P.Poller.Poller.places g.P.Poller.Poller.taken g.P.Poller.Poller.tapes g.P.Poller.Poller.came g.P.Poller.Poller.links
    g.P.Poller.Poller.faults g.P.Poller.Poller.quota g.P.Clock.Clock.told g.P.Dice.Dice.drawn g.P.Dice.Dice.faults (tally (g.P.Ports.tapes c.args.ports.now)
    (g.P.Ports.links c.args.ports.now) (g.P.Ports.dice_faults c.args.ports.now) (g.P.Ports.address c.args.ports.now) (g.P.Ports.drawn c.args.ports.now))
    (tally (g.P.Ports.tapes c.serve_list-posts.new.ports) (g.P.Ports.links c.serve_list-posts.new.ports) (g.P.Ports.dice_faults c.serve_list-posts.new.ports)
    (g.P.Ports.address c.serve_list-posts.new.ports) (g.P.Ports.drawn c.serve_list-posts.new.ports))
    (tally (g.P.Ports.tapes c.gather_pollers.new.self) (g.P.Ports.links c.gather_pollers.new.self) (g.P.Ports.dice_faults c.gather_pollers.new.self)
    (g.P.Ports.address c.gather_pollers.new.self) (g.P.Ports.drawn c.gather_pollers.new.self)) c.serve_list-posts.result.0.items
    (ap (λ t. t.tapes) same ∙ c.in-Ok.ensures.tapes) (ap (λ t. t.links) same ∙ c.in-Ok.ensures.links) (ap (λ t. t.dice) same ∙ c.in-Ok.ensures.dice)
    c.serve_list-posts.ensures.wide back.tapes back.links back.dice in
    posts_ran c.serve_list-posts.result.1 asked c.requires.some.0 c.requires.some.1
    c.args.list.now (tally (g.P.Ports.tapes c.args.ports.now) (g.P.Ports.links c.args.ports.now) (g.P.Ports.dice_faults c.args.ports.now)
    (g.P.Ports.address c.args.ports.now) (g.P.Ports.drawn c.args.ports.now))
    (tally (g.P.Ports.tapes c.gather_pollers.new.self) (g.P.Ports.links c.gather_pollers.new.self) (g.P.Ports.dice_faults c.gather_pollers.new.self)
    (g.P.Ports.address c.gather_pollers.new.self) (g.P.Ports.drawn c.gather_pollers.new.self)) _ _ _ _ c.serve_list-posts.ensures.served c.in-Ok.ensures.drawn
    back.drawn many opened listened given

pub returns-in-Ok-clause-failed : goal.returns-in-Ok-clause-failed
returns-in-Ok-clause-failed g c =
    let asked = c.args.serving.now in
    ports_failed c.serve_list-posts.result.1 asked c.args.list.now _ _ _ _ _ _ _ _
    c.serve_list-posts.ensures.served c.in-Ok.ensures.kept c.serve_list-posts.ensures.kept
    (faults_told _ _ _ g.P.Poller.Poller.places g.P.Poller.Poller.taken g.P.Poller.Poller.tapes g.P.Poller.Poller.came g.P.Poller.Poller.links
    g.P.Poller.Poller.faults g.P.Poller.Poller.quota g.P.Clock.Clock.told g.P.Dice.Dice.drawn g.P.Dice.Dice.faults _ _ c.serve_list-posts.result.0.items
    c.gather_pollers.ensures.faults)
    (all_opened _ _ _ g.P.Poller.Poller.places g.P.Poller.Poller.taken g.P.Poller.Poller.tapes g.P.Poller.Poller.came g.P.Poller.Poller.links
    g.P.Poller.Poller.faults g.P.Poller.Poller.quota g.P.Clock.Clock.told g.P.Dice.Dice.drawn g.P.Dice.Dice.faults asked.links asked.connections c.in-Ok.posts.items
    c.in-Ok.ensures.opened c.in-Ok.ensures.sources)

pub returns-in-Ok-clause-refused : goal.returns-in-Ok-clause-refused
returns-in-Ok-clause-refused g c =
    ports_refused c.serve_list-posts.result.1 c.args.serving.now.sessions c.args.list.now _ _ _ _ c.in-Ok.ensures.kept c.gather_pollers.ensures.faults_kept
    c.serve_list-posts.ensures.refused

pub returns-in-Ok-clause-unserved : goal.returns-in-Ok-clause-unserved
returns-in-Ok-clause-unserved g c =
    let asked = c.args.serving.now in
    let same = c.serve_list-posts.ensures.same in
    let back = c.gather_pollers.ensures in
    let many = length_told _ _ _ g.P.Poller.Poller.places g.P.Poller.Poller.taken g.P.Poller.Poller.tapes g.P.Poller.Poller.came g.P.Poller.Poller.links
    g.P.Poller.Poller.faults g.P.Poller.Poller.quota g.P.Clock.Clock.told g.P.Dice.Dice.drawn g.P.Dice.Dice.faults c.in-Ok.posts.items asked.workers
    c.in-Ok.ensures.posts in
    let opened = all_opened _ _ _ g.P.Poller.Poller.places g.P.Poller.Poller.taken g.P.Poller.Poller.tapes g.P.Poller.Poller.came g.P.Poller.Poller.links
    g.P.Poller.Poller.faults g.P.Poller.Poller.quota g.P.Clock.Clock.told g.P.Dice.Dice.drawn g.P.Dice.Dice.faults asked.links asked.connections c.in-Ok.posts.items
    c.in-Ok.ensures.opened c.in-Ok.ensures.sources in
    let listened = back.address ∙ ap (λ t. t.address) same ∙ c.in-Ok.ensures.address ∙ ap Some c.in_ok-address.ensures in
    let given = given_told _ _ _ g.P.Poller.Poller.places g.P.Poller.Poller.taken g.P.Poller.Poller.tapes g.P.Poller.Poller.came g.P.Poller.Poller.links
    g.P.Poller.Poller.faults g.P.Poller.Poller.quota g.P.Clock.Clock.told g.P.Dice.Dice.drawn g.P.Dice.Dice.faults (tally (g.P.Ports.tapes c.args.ports.now)
    (g.P.Ports.links c.args.ports.now) (g.P.Ports.dice_faults c.args.ports.now) (g.P.Ports.address c.args.ports.now) (g.P.Ports.drawn c.args.ports.now))
    (tally (g.P.Ports.tapes c.serve_list-posts.new.ports) (g.P.Ports.links c.serve_list-posts.new.ports) (g.P.Ports.dice_faults c.serve_list-posts.new.ports)
    (g.P.Ports.address c.serve_list-posts.new.ports) (g.P.Ports.drawn c.serve_list-posts.new.ports))
    (tally (g.P.Ports.tapes c.gather_pollers.new.self) (g.P.Ports.links c.gather_pollers.new.self) (g.P.Ports.dice_faults c.gather_pollers.new.self)
    (g.P.Ports.address c.gather_pollers.new.self) (g.P.Ports.drawn c.gather_pollers.new.self)) c.serve_list-posts.result.0.items
    (ap (λ t. t.tapes) same ∙ c.in-Ok.ensures.tapes) (ap (λ t. t.links) same ∙ c.in-Ok.ensures.links) (ap (λ t. t.dice) same ∙ c.in-Ok.ensures.dice)
    c.serve_list-posts.ensures.wide back.tapes back.links back.dice in
    ports_unserved c.serve_list-posts.result.1 asked (tally (g.P.Ports.tapes c.args.ports.now)
    (g.P.Ports.links c.args.ports.now) (g.P.Ports.dice_faults c.args.ports.now) (g.P.Ports.address c.args.ports.now) (g.P.Ports.drawn c.args.ports.now))
    (tally (g.P.Ports.tapes c.gather_pollers.new.self) (g.P.Ports.links c.gather_pollers.new.self) (g.P.Ports.dice_faults c.gather_pollers.new.self)
    (g.P.Ports.address c.gather_pollers.new.self) (g.P.Ports.drawn c.gather_pollers.new.self)) _
    (post_told _ _ _ g.P.Poller.Poller.tapes g.P.Poller.Poller.came g.P.Poller.Poller.links g.P.Poller.Poller.faults g.P.Poller.Poller.quota
    g.P.Clock.Clock.told g.P.Dice.Dice.drawn g.P.Dice.Dice.faults) c.in-Ok.posts.items c.serve_list-posts.result.0.items _ _
    c.serve_list-posts.ensures.back c.serve_list-posts.ensures.unused c.in-Ok.ensures.drawn back.drawn many opened listened given

pub serve_list-posts-requires-clause-pollers : goal.serve_list-posts-requires-clause-pollers
serve_list-posts-requires-clause-pollers g c κs within = all_placed _ _ _ g.P.Poller.Poller.places g.P.Poller.Poller.taken g.P.Poller.Poller.tapes
    g.P.Poller.Poller.came g.P.Poller.Poller.links
    g.P.Poller.Poller.faults g.P.Poller.Poller.quota g.P.Clock.Clock.told g.P.Dice.Dice.drawn g.P.Dice.Dice.faults _ _ c.in-Ok.posts.items c.in-Ok.ensures.opened

pub serve_list-posts-requires-clause-free : goal.serve_list-posts-requires-clause-free
serve_list-posts-requires-clause-free g c κs within = all_free _ _ _ g.P.Poller.Poller.places g.P.Poller.Poller.taken g.P.Poller.Poller.tapes g.P.Poller.Poller.came
    g.P.Poller.Poller.links
    g.P.Poller.Poller.faults g.P.Poller.Poller.quota g.P.Clock.Clock.told g.P.Dice.Dice.drawn g.P.Dice.Dice.faults _ _ c.in-Ok.posts.items c.in-Ok.ensures.opened
