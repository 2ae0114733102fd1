use Rattle.std.proofs.Common.{◌≡◌, length, rules, arith}
use Rattle.std.proofs.lemmas.List.Elements.{All-push, All-same}
use Rattle.outside_net.specs.Counts.{IsOpenedNet, NetPost}
use Rattle.outside_net.proofs.PostLemmas.{opened_and_one}
use Rattle.outside_net.proofs.net_ports.make_posts.Goals as goal

pub loop-poll-preserved : goal.loop-poll-preserved
loop-poll-preserved g c = record {
  can_next = tt;
  is_finite = tt;
  count = search (rules, arith);
  sources =
      All-same (λ (p : NetPost). length p.sources.items ≡ c.args.places) c.push.new.self.items _ c.in_ok-push.ensures.items
      (All-push (λ (p : NetPost). length p.sources.items ≡ c.args.places) c.loop-poll.posts.items c.in_ok-make_post.field-0
      c.loop-poll.invariant.sources c.in_ok-make_post.ensures.sources);
  opened =
      All-same (λ (p : NetPost). IsOpenedNet c.args.places c.args.quota p.poller) c.push.new.self.items _ c.in_ok-push.ensures.items
      (opened_and_one c.args.places c.args.quota c.loop-poll.posts.items c.in_ok-make_post.field-0 c.loop-poll.invariant.opened
      c.in_ok-make_post.ensures.fresh);
}
