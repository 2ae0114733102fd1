use Rattle.std.proofs.Common.{length, map, ap, subst, sym, ◌∙◌}
use Rattle.outside.specs.Draws.{DiceState}
use Rattle.outside.specs.Polls.{placed, seat_at}
use Rattle.outside.specs.Posts.{Gathers, MemPost, PortsState}
use Rattle.outside.proofs.PostLemmas.{gathered_address, gathered_dice, gathered_faults, gathered_links, gathered_own_dice, gathered_tapes}
use Rattle.outside.proofs.mem_ports.MemPortsPorts.gather_pollers.Goals as goal

pub returns-clause-faults : goal.returns-clause-faults
returns-clause-faults c = ap (λ (v : PortsState). v.plan.faults) c.take_posts.ensures.state ∙ gathered_faults c.args.self.now c.args.posts.items

pub returns-clause-links : goal.returns-clause-links
returns-clause-links c = ap (λ (v : PortsState). v.links) c.take_posts.ensures.state ∙ gathered_links c.args.self.now c.args.posts.items

pub returns-clause-dice : goal.returns-clause-dice
returns-clause-dice c = ap (λ (v : PortsState). v.dice_faults) c.take_posts.ensures.state ∙ gathered_dice c.args.self.now c.args.posts.items

pub returns-clause-address : goal.returns-clause-address
returns-clause-address c = ap (λ (v : PortsState). v.address) c.take_posts.ensures.state ∙ gathered_address c.args.self.now c.args.posts.items

pub returns-clause-tapes : goal.returns-clause-tapes
returns-clause-tapes c =
    subst (λ (v : PortsState). Gathers c.args.self.now.tapes
    (map (λ (p : MemPost). placed (length p.poller.places) (λ k. (seat_at p.poller.places k).tapes)) c.args.posts.items) v.tapes)
    (sym c.take_posts.ensures.state) (gathered_tapes c.args.self.now c.args.posts.items)

pub returns-clause-drawn : goal.returns-clause-drawn
returns-clause-drawn c = ap (λ (v : PortsState). v.dice.drawn) c.take_posts.ensures.state
    ∙ ap (λ (d : DiceState). d.drawn) (gathered_own_dice c.args.self.now c.args.posts.items)
