use Rattle.std.proofs.Common.{List, ap, map, ◌∙◌}
use Rattle.outside.proofs.Adding.{added_no_places}
use Rattle.outside.specs.Posts.{added}
use Rattle.meeting_ports.specs.Meetings.{MeetPost, PortsCounts}
use Rattle.meeting_ports.proofs.PostLemmas.{gathered_address, gathered_faults, gathered_links}
use Rattle.meeting_ports.proofs.ports.MeetPortsPorts.gather_pollers.Goals as goal

pub returns-clause-faults : goal.returns-clause-faults
returns-clause-faults c = ap (λ (v : PortsCounts). v.faults) c.keep.ensures ∙ ap (λ (v : PortsCounts). v.faults) c.count_posts.ensures.state
    ∙ gathered_faults c.args.self.now c.as_slice.result.now
    ∙ ap (λ (l : List MeetPost). added c.args.self.now.faults (map (λ p. p.poller.faults) l)) c.as_slice.ensures.value

pub returns-clause-links : goal.returns-clause-links
returns-clause-links c = ap (λ (v : PortsCounts). v.links) c.keep.ensures ∙ ap (λ (v : PortsCounts). v.links) c.count_posts.ensures.state
    ∙ gathered_links c.args.self.now c.as_slice.result.now
    ∙ ap (λ (l : List MeetPost). added c.args.self.now.links (map (λ p. p.poller.links) l)) c.as_slice.ensures.value

pub returns-clause-dice : goal.returns-clause-dice
returns-clause-dice c = added_no_places (λ (p : MeetPost). p.sources.items) c.args.posts.items

pub returns-clause-address : goal.returns-clause-address
returns-clause-address c = ap (λ (v : PortsCounts). v.address) c.keep.ensures ∙ ap (λ (v : PortsCounts). v.address) c.count_posts.ensures.state
    ∙ gathered_address c.args.self.now c.as_slice.result.now
