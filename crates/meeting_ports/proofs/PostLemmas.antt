-- Posts that are handed out and taken back.
use Rattle.std.proofs.Common.{◌≡◌, ℕ, zero, suc, List, [], ◌∷◌, ◌++◌, map, refl, subst, sym}
use Rattle.std.proofs.lemmas.List.Elements.{All-push}
use Rattle.std.specs.Prelude.{None}
use Rattle.outside.specs.Polls.{IsOpened}
use Rattle.outside.specs.Posts.{added}
use Rattle.meeting_ports.specs.Meetings.{AreOpened, MeetPost, PollerCounts, PortsCounts, came_at, fresh, takes, took_post, took_posts}
use Rattle.meeting_ports.proofs.PollLemmas.{none_taken}

pub gathered_faults : (v : PortsCounts) (posts : List MeetPost) → (took_posts v posts).faults ≡ added v.faults (map (λ p. p.poller.faults) posts)
gathered_faults v [] = refl
gathered_faults v (p ∷ ps) = gathered_faults (took_post v p) ps

pub gathered_links : (v : PortsCounts) (posts : List MeetPost) → (took_posts v posts).links ≡ added v.links (map (λ p. p.poller.links) posts)
gathered_links v [] = refl
gathered_links v (p ∷ ps) = gathered_links (took_post v p) ps

pub gathered_address : (v : PortsCounts) (posts : List MeetPost) → (took_posts v posts).address ≡ v.address
gathered_address v [] = refl
gathered_address v (p ∷ ps) = gathered_address (took_post v p) ps

abbrev IsFresh : (places quota : ℕ) → PollerCounts → Type 0
IsFresh places quota p =
    IsOpened PollerCounts (λ q. q.places) (λ q. q.quota) (λ q. q.faults) (λ q. q.links) takes came_at (λ _ _. None) places quota p

none_came : (places quota k : ℕ) → came_at (fresh places quota) k ≡ 0
none_came places quota zero = refl
none_came places quota (suc k) = refl

is_fresh : (places quota : ℕ) → IsFresh places quota (fresh places quota)
is_fresh places quota = record {
  places = refl;
  quota_is = refl;
  faults = refl;
  links = refl;
  free = λ k. none_taken (fresh places quota) k refl;
  came = λ k. none_came places quota k;
  tapes = λ k. tt;
}

pub opened_and_one : (places quota : ℕ) (posts : List MeetPost) (p : MeetPost) → AreOpened places quota posts → p.poller ≡ fresh places quota
    → AreOpened places quota (posts ++ p ∷ [])
opened_and_one places quota posts p opened is =
    All-push (λ (q : MeetPost). IsFresh places quota q.poller) posts p opened
    (subst (λ (x : PollerCounts). IsFresh places quota x) (sym is) (is_fresh places quota))
