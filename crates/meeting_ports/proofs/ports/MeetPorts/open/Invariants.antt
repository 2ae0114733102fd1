use Rattle.std.proofs.Common.{◌≡◌, length}
use Rattle.std.specs.Prelude.{All}
use Rattle.meeting_ports.specs.Meetings.{AreOpened, MeetPost}
use Rattle.meeting_ports.proofs.ports.MeetPorts.open.Given as goal

abbrev pub invariant-loop-worker : goal.invariant-loop-worker
invariant-loop-worker l = record {
  count : length l.posts.items ≡ l.worker;
  sources : All (λ (p : MeetPost). length p.sources.items ≡ l.places) l.posts.items;
  opened : AreOpened l.places l.quota l.posts.items;
}
