use Rattle.std.proofs.Common.{ap, ◌∙◌}
use Rattle.outside_net.specs.Counts.{PortsCounts}
use Rattle.outside_net.proofs.PostLemmas.{gathered_address, gathered_dice, gathered_faults, gathered_links}
use Rattle.outside_net.proofs.net_ports.NetPortsPorts.gather_pollers.Goals as goal

pub returns-clause-faults : goal.returns-clause-faults
returns-clause-faults g c = ap (λ (v : PortsCounts). v.faults) c.take_posts.ensures.state ∙ gathered_faults c.args.self.now c.args.posts.items

pub returns-clause-links : goal.returns-clause-links
returns-clause-links g c = ap (λ (v : PortsCounts). v.links) c.take_posts.ensures.state ∙ gathered_links c.args.self.now c.args.posts.items

pub returns-clause-dice : goal.returns-clause-dice
returns-clause-dice g c = ap (λ (v : PortsCounts). v.dice_faults) c.take_posts.ensures.state ∙ gathered_dice c.args.self.now c.args.posts.items

pub returns-clause-address : goal.returns-clause-address
returns-clause-address g c = ap (λ (v : PortsCounts). v.address) c.take_posts.ensures.state ∙ gathered_address c.args.self.now c.args.posts.items
