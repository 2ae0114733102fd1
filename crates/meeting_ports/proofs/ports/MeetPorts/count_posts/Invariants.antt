use Rattle.std.proofs.Common.{◌≡◌, ◌≤◌, drop}
use Rattle.meeting_ports.specs.Meetings.{took_posts}
use Rattle.meeting_ports.proofs.ports.MeetPorts.count_posts.Given as goal

abbrev pub invariant-loop-post : goal.invariant-loop-post
invariant-loop-post l = record {
  state : took_posts l.self (drop l.post-index l.posts) ≡ took_posts l.fn.self l.posts;
  faults : l.fn.self.faults ≤ l.self.faults;
  links : l.fn.self.links ≤ l.self.links;
}
