-- Room in the index.
use Rattle.std.proofs.Common.{◌≡◌, ℕ, ◌+◌, ◌-◌, ◌<◌, ◌≤◌, min, max, List, [], ◌∷◌, Bool, true, false, nat_eq, refl, arith, if◌then◌else◌}
use Rattle.std.specs.Prelude.{Some}
use Rattle.std.specs.Map.{lookup}
use Rattle.hash_keys.specs.declared.key.HashKey.{HashKey}
use Rattle.jid_core.specs.Addresses.{Address}
use Rattle.rsm_paging.specs.declared.ask.Row.{Row}
use Rattle.mam_archive.specs.Archives.{until_at}
use Rattle.mam_archive.specs.Lists.{Entries, IsListed, held, list_at, places}
use Rattle.mam_archive.specs.Peers.{key}
use Rattle.mam_archive.specs.declared.peers.Extent.TheVariants.{Bare, Full}

pub until-is : (k : ℕ) (es : Entries) → until_at k (places es) ≡ (list_at k es).until
until-is k [] = refl
until-is k (e ∷ es) = by (nat_eq k e.0) (until-is k es) where
  by : (b : Bool) → until_at k (places es) ≡ (list_at k es).until
      → (if b then e.1.until else until_at k (places es)) ≡ (held (if b then Some e.1 else lookup (nat_eq k) es)).until
  by true rest = refl
  by false rest = rest

module _ (hash_key : HashKey) where
  abbrev pub room_in : Address → (made : ℕ) → Entries → Entries → ℕ
  room_in p made bare full = min (until_at (key hash_key Bare p) (places bare)) (until_at (key hash_key Full p) (places full)) - made

  pub room-kept : (p : Address) (made : ℕ) (bare full bare' full' : Entries) → ((k : ℕ) → (list_at k bare).until ≤ max made (list_at k bare').until)
      → ((k : ℕ) → (list_at k full).until ≤ max made (list_at k full').until) → room_in p made bare full ≤ room_in p made bare' full'
  room-kept p made bare full bare' full' first second =
      let b = first (key hash_key Bare p) in
      let f = second (key hash_key Full p) in
      omega (
        arith,
        b,
        f,
        until-is (key hash_key Bare p) bare,
        until-is (key hash_key Full p) full,
        until-is (key hash_key Bare p) bare',
        until-is (key hash_key Full p) full',
      )

  pub room-more : (p : Address) (made : ℕ) (bare full bare' full' : Entries) → ((k : ℕ) → (list_at k bare).until ≤ (list_at k bare').until)
      → ((k : ℕ) → (list_at k full).until ≤ (list_at k full').until) → room_in p made bare full ≤ room_in p made bare' full'
  room-more p made bare full bare' full' first second =
      room-kept p made bare full bare' full' (λ k. let le = first k in omega (arith, le)) (λ k. let le = second k in omega (arith, le))

  pub room-used : (p : Address) (made : ℕ) (bare full bare' full' : Entries) → ((k : ℕ) → (list_at k bare').until ≡ (list_at k bare).until)
      → ((k : ℕ) → (list_at k full').until ≡ (list_at k full).until) → room_in p made bare full ≤ room_in p (made + 1) bare' full' + 1
  room-used p made bare full bare' full' first second =
      let b = first (key hash_key Bare p) in
      let f = second (key hash_key Full p) in
      omega (
        arith,
        b,
        f,
        until-is (key hash_key Bare p) bare,
        until-is (key hash_key Full p) full,
        until-is (key hash_key Bare p) bare',
        until-is (key hash_key Full p) full',
      )

  pub room-there : (p : Address) (made many until : ℕ) (bare full : Entries) → until ≡ made + many → until ≤ (list_at (key hash_key Bare p) bare).until
      → until ≤ (list_at (key hash_key Full p) full).until → many ≤ room_in p made bare full
  room-there p made many until bare full is first second =
      omega (arith, is, first, second, until-is (key hash_key Bare p) bare, until-is (key hash_key Full p) full)

  pub free-bare : (p : Address) (rows : List Row) (made : ℕ) (bare full : Entries) → IsListed hash_key Bare rows made bare → 0 < room_in p made bare full
      → 0 < (list_at (key hash_key Bare p) bare).free
  free-bare p rows made bare full was some =
      let fits = was.room (key hash_key Bare p) in omega (arith, fits, some, until-is (key hash_key Bare p) bare)

  pub free-full : (p : Address) (rows : List Row) (made : ℕ) (bare full : Entries) → IsListed hash_key Full rows made full → 0 < room_in p made bare full
      → 0 < (list_at (key hash_key Full p) full).free
  free-full p rows made bare full was some =
      let fits = was.room (key hash_key Full p) in omega (arith, fits, some, until-is (key hash_key Full p) full)
