-- What is acted on, against what the client has to send.
use Rattle.std.proofs.Common.{◌≡◌, ◌⊎◌, inl, inr, List, [], ◌∷◌, ◌++◌, Some, Bool, true, false, refl, sym, ap, ◌∙◌}
use Rattle.std.proofs.Common.{append_assoc, append-nil, length-append, le_of_eq, le_refl, arith}
use Rattle.std.proofs.lemmas.Bool.{cases_lt}
use Rattle.std.proofs.Math.Seq.{drop-append_seam}
use Rattle.std.specs.Prelude.{ℕ, ◌+◌, ◌-◌, ◌^◌, ◌<◌, ◌≤◌, length, drop, slice_get}
use Rattle.sm_counters.specs.Numbers.{count_of, number}
use Rattle.sm_counters.proofs.CountLaws.{number-is}
use Rattle.sm_account.specs.Accounts.{IsOneOf}
use Rattle.sm_account.specs.Prefixes.{IsPrefixOf}
use Rattle.sm_account.proofs.Lists.{next_after}

abbrev pub one_if : Bool → ℕ
one_if false = 0
one_if true = 1

-- no number of the list is above m
abbrev pub AllUpTo : ℕ → List ℕ → Type 0
AllUpTo m [] = Unit {0}
AllUpTo m (n ∷ ns) = (n ≤ m) × AllUpTo m ns

up_to_more : (m k : ℕ) (ns : List ℕ) → m ≤ k → AllUpTo m ns → AllUpTo k ns
up_to_more m k [] more all = tt
up_to_more m k (n ∷ ns) more all = (omega (arith, all.0), up_to_more m k ns more all.1)

up_to_one : (m n : ℕ) (ns : List ℕ) → AllUpTo m ns → IsOneOf n ns → n ≤ m
up_to_one m n [] all one = absurd one
up_to_one m n (k ∷ ks) all one = elim one [ inl e ↦ omega (arith, all.0) | inr later ↦ up_to_one m n ks all.1 later ]

-- Of the client's stanzas the first were acted on since the session counts. The present connection has place i, and the
-- client sends on it from `begins i` on.
pub record Inward {S : Type 0} (stanzas : List S) (begins : ℕ → ℕ) (acts : List S) (base i : ℕ) (arrived : List S)
    (short : Bool) (told : List ℕ) : Type 0 where
  pub early : List S
  pub done : List S
  pub ahead : List S
  pub acts_are : acts ≡ early ++ done
  pub base_is : base ≡ length early
  pub stanzas_are : stanzas ≡ done ++ ahead
  pub at : length done + one_if short ≡ begins i + length arrived
  pub places : (j : ℕ) → j ≤ i → begins j ≤ length done
  pub known : AllUpTo (length done) told

-- the session begins to count
pub starts : {S : Type 0} (stanzas : List S) (begins : ℕ → ℕ) (acts : List S) → begins 0 ≡ 0
    → Inward stanzas begins acts (length acts) 0 [] false []
starts stanzas begins acts first = record {
  early = acts;
  done = [];
  ahead = stanzas;
  acts_are = sym (append-nil acts);
  base_is = refl;
  stanzas_are = refl;
  at = omega (arith, first);
  places = λ j low. let e : j ≡ 0 = omega (arith, low) in rw e (omega (arith, first));
  known = tt;
}

module _ {S : Type 0} {stanzas : List S} {begins : ℕ → ℕ} {acts : List S} {base i : ℕ} {arrived : List S} {short : Bool}
    {told : List ℕ} (n : Inward stanzas begins acts base i arrived short told) where
  acts_first : (x : S) (xs : List S) → n.ahead ≡ x ∷ xs
      → Inward stanzas begins (acts ++ x ∷ []) base i (arrived ++ x ∷ []) short told
  acts_first x xs first = record {
    early = n.early;
    done = n.done ++ x ∷ [];
    ahead = xs;
    acts_are = rw n.acts_are (append_assoc n.early n.done (x ∷ []));
    base_is = n.base_is;
    stanzas_are = n.stanzas_are ∙ rw first (sym (append_assoc n.done (x ∷ []) xs));
    at = simp length-append (omega (arith, n.at));
    places = λ j low. simp length-append (let before : begins j ≤ length n.done = n.places j low in omega arith);
    known = up_to_more (length n.done) (length (n.done ++ x ∷ [])) told (simp length-append (omega arith)) n.known;
  }

  -- the next stanza of the client is acted on
  pub acts_on : (x : S) → slice_get stanzas (begins i + length arrived) ≡ Some x → short ≡ false
      → Inward stanzas begins (acts ++ x ∷ []) base i (arrived ++ x ∷ []) short told
  acts_on x next whole =
      let none : one_if short ≡ 0 = ap one_if whole in
      let long : begins i + length arrived ≡ length n.done = omega (arith, n.at) in
      let tail = next_after stanzas n.done n.ahead (begins i + length arrived) x n.stanzas_are long next in
      acts_first x tail.0 tail.1

  -- it arrives, and there is no memory to act on it
  pub refuses : (x : S) → short ≡ false → Inward stanzas begins acts base i (arrived ++ x ∷ []) true told
  refuses x whole =
      let none : one_if short ≡ 0 = ap one_if whole in
      record {
        early = n.early;
        done = n.done;
        ahead = n.ahead;
        acts_are = n.acts_are;
        base_is = n.base_is;
        stanzas_are = n.stanzas_are;
        at = simp length-append (omega (arith, n.at));
        places = n.places;
        known = n.known;
      }

  pub done_is : drop base acts ≡ n.done
  done_is = rw (n.acts_are, n.base_is) (drop-append_seam n.early n.done)

  -- the client is told how many stanzas were acted on
  pub tells : Inward stanzas begins acts base i arrived short (length (drop base acts) ∷ told)
  tells = record {
    early = n.early;
    done = n.done;
    ahead = n.ahead;
    acts_are = n.acts_are;
    base_is = n.base_is;
    stanzas_are = n.stanzas_are;
    at = n.at;
    places = n.places;
    known = (le_of_eq (ap length done_is), n.known);
  }

  -- the client finds by the server's count from where to send again
  pub opens : (low high : ℕ) → (low ≡ 0) ⊎ (((j : ℕ) × (j ≤ i) × (low ≡ begins j)) ⊎ IsOneOf low told)
      → high < low + 2 ^ 32 → begins i + length arrived ≤ high
      → number low high (count_of (length acts - base)) ≡ Some (begins (i + 1))
      → Inward stanzas begins acts base (i + 1) [] false told
  opens low high knows near ends place =
      let below : low ≤ length n.done = elim knows [
        | inl none ↦ omega (arith, none)
        | inr more ↦ elim more [
          | inl at ↦ (let before : begins at.0 ≤ length n.done = n.places at.0 at.1 in omega (arith, at.2))
          | inr one ↦ up_to_one (length n.done) low told n.known one
        ]
      ] in
      let above : length n.done ≤ high = omega (arith, n.at) in
      let long : length acts ≡ length n.early + length n.done = rw n.acts_are (length-append n.early n.done) in
      let count : count_of (length n.done) ≡ count_of (length acts - base) = ap count_of (omega (arith, n.base_is)) in
      let found : number low high (count_of (length acts - base)) ≡ Some (length n.done) =
      number-is low high _ (length n.done) near (record { low = below; high = above; count = count }) in
      let next : begins (i + 1) ≡ length n.done = cc in
      record {
        early = n.early;
        done = n.done;
        ahead = n.ahead;
        acts_are = n.acts_are;
        base_is = n.base_is;
        stanzas_are = n.stanzas_are;
        at = omega (arith, next);
        places = λ j within. elim (cases_lt i j) [
          | inl past ↦ (let e : j ≡ i + 1 = omega (arith, past, within) in rw (e, next) (le_refl (length n.done)))
          | inr here ↦ n.places j here
        ];
        known = n.known;
      }

  -- what is acted on since the session counts is a prefix of what the client has to send
  pub prefix : IsPrefixOf (drop base acts) stanzas
  prefix = (n.ahead, rw done_is (sym n.stanzas_are))
