-- Posts that are handed out and taken back.
use Rattle.std.proofs.Common.{◌≡◌, ℕ, zero, suc, List, [], ◌∷◌, ◌++◌, map, replicate, refl, ap, subst, sym, ◌∙◌}
use Rattle.std.proofs.lemmas.List.{length-replicate}
use Rattle.std.proofs.lemmas.List.Elements.{All-push}
use Rattle.outside.specs.Posts.{added, all_of}
use Rattle.outside.proofs.Adding.{added_both}
use Rattle.outside_net.specs.declared.places.Seat.{Seat}
use Rattle.outside_net.specs.Counts.{AreOpened, IsOpenedNet, NetPost, PollerCounts, PortsCounts, fresh_poller, seat_at, took_post, took_posts, unused}

pub gathered_faults : (v : PortsCounts) (posts : List NetPost) → (took_posts v posts).faults ≡ added v.faults (map (λ p. p.poller.faults) posts)
gathered_faults v [] = refl
gathered_faults v (p ∷ ps) = gathered_faults (took_post v p) ps

pub gathered_links : (v : PortsCounts) (posts : List NetPost) → (took_posts v posts).links ≡ added v.links (map (λ p. p.poller.places.links) posts)
gathered_links v [] = refl
gathered_links v (p ∷ ps) = gathered_links (took_post v p) ps

abbrev dice_of : NetPost → List ℕ
dice_of p = map (λ s. s.dice) p.sources.items

pub gathered_dice : (v : PortsCounts) (posts : List NetPost)
    → (took_posts v posts).dice_faults ≡ added v.dice_faults (all_of (map (λ p. map (λ s. s.dice) p.sources.items) posts))
gathered_dice v [] = refl
gathered_dice v (p ∷ ps) =
    gathered_dice (took_post v p) ps ∙ sym (added_both v.dice_faults (dice_of p) (all_of (map (λ (q : NetPost). dice_of q) ps)))

pub gathered_address : (v : PortsCounts) (posts : List NetPost) → (took_posts v posts).address ≡ v.address
gathered_address v [] = refl
gathered_address v (p ∷ ps) = gathered_address (took_post v p) ps

-- Pollers as they are handed out.

all_unused : (places k : ℕ) → seat_at (replicate places unused) k ≡ unused
all_unused zero k = refl
all_unused (suc places) zero = refl
all_unused (suc places) (suc k) = all_unused places k

is_opened : (places quota : ℕ) → IsOpenedNet places quota (fresh_poller places quota)
is_opened places quota = record {
  places = length-replicate places unused;
  quota_is = refl;
  faults = refl;
  links = refl;
  free = λ k. ap (λ (s : Seat). s.taken) (all_unused places k);
  came = λ k. ap (λ (s : Seat). s.came) (all_unused places k);
  tapes = λ k. tt;
}

pub opened_and_one : (places quota : ℕ) (posts : List NetPost) (p : NetPost) → AreOpened places quota posts → p.poller ≡ fresh_poller places quota
    → AreOpened places quota (posts ++ p ∷ [])
opened_and_one places quota posts p opened is =
    All-push (λ (q : NetPost). IsOpenedNet places quota q.poller) posts p opened
    (subst (λ (x : PollerCounts). IsOpenedNet places quota x) (sym is) (is_opened places quota))
