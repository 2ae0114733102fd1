-- The sessions of a hash can still be gone through, as they change, come and go.
use Rattle.std.proofs.Common.{◌≡◌, ◌≢◌, ℕ, zero, suc, ◌<◌, nat_eq, Bool, true, false, cond, filter, is_some, ◌⊎◌, inl, inr, List, [], ◌∷◌, ◌++◌, Option, Some}
use Rattle.std.proofs.Common.{None, arith, refl, sym, ap, ◌∙◌}
use Rattle.std.proofs.lemmas.Bool.{true≢false}
use Rattle.std.proofs.lemmas.Bool.Decides.{eqb_tells}
use Rattle.std.proofs.lemmas.Option.{none-some as none_some, same_Some}
use Rattle.std.specs.Map.{lookup}
use Rattle.indexmap.specs.IndexMap.{set_value_at}
use Rattle.session_table.specs.declared.slots.Slot.{Slot}
use Rattle.session_table.specs.Indexes.{AreChained, AreLinked, Climbs, IsAt, Slots, emptied, first_of, has_hash, is_filled, leading_to}
use Rattle.session_table.specs.Sessions.{SessionRecord}
use Rattle.session_table.proofs.ChainLemmas.{first_low, next_high, one_hash}
use Rattle.session_table.proofs.PlaceLemmas.{climbs_added, climbs_filled, climbs_set, number_at_place}
use Rattle.hash_keys.specs.declared.key.HashKey.{HashKey}

pub at_else : (p q s m : ℕ) (o z w : Slot) (es : Slots) → IsAt p s o es → IsAt q m z es → (m ≡ s → ⊥) → IsAt p s o (set_value_at es q w)
at_else p q s m o z w [] at there apart = absurd at
at_else zero zero s m o z w (e ∷ more) at there apart = absurd (apart (sym there.0 ∙ at.0))
at_else zero (suc q) s m o z w (e ∷ more) at there apart = at
at_else (suc p) zero s m o z w (e ∷ more) at there apart = at
at_else (suc p) (suc q) s m o z w (e ∷ more) at there apart = at_else p q s m o z w more at there apart

module _ (key : HashKey) where
  -- the first of a hash after a change
  pub first_linked : (h p n : ℕ) (o w : Slot) (es : Slots) → w.session ≡ o.session → IsAt p n o es
      → first_of key h (set_value_at es p w) ≡ first_of key h es
  first_linked h p n o w [] same at = absurd at
  first_linked h zero n o w (e ∷ more) same at =
      ap (λ s. cond (has_hash key h s) (Some e.0) (first_of key h more)) (same ∙ ap (λ (x : Slot). x.session) (sym at.1))
  first_linked h (suc p) n o w (e ∷ more) same at = ap (cond (has_hash key h e.1.session) (Some e.0)) (first_linked h p n o w more same at)

  first_others : (h p n : ℕ) (o w : Slot) (es : Slots) → IsAt p n o es → has_hash key h o.session ≡ false → has_hash key h w.session ≡ false
      → first_of key h (set_value_at es p w) ≡ first_of key h es
  first_others h p n o w [] at other away = absurd at
  first_others h zero n o w (e ∷ more) at other away =
      ap (λ b. cond b (Some e.0) (first_of key h more)) (away ∙ sym (ap (λ (x : Slot). has_hash key h x.session) at.1 ∙ other))
  first_others h (suc p) n o w (e ∷ more) at other away =
      ap (cond (has_hash key h e.1.session) (Some e.0)) (first_others h p n o w more at other away)

  -- it was the first
  first_gone : (h p s : ℕ) (o : Slot) (last made : ℕ) (es : Slots) → Climbs last es made → AreLinked key es → IsAt p s o es
      → has_hash key h o.session ≡ true → first_of key h es ≡ Some s → first_of key h (set_value_at es p (emptied o)) ≡ o.next
  first_gone h p s o last made [] climbs linked at own first = absurd at
  first_gone h zero s o last made (e ∷ more) climbs linked at own first =
      sym (linked.0 h (ap (λ (x : Slot). has_hash key h x.session) at.1 ∙ own)) ∙ ap (λ (x : Slot). x.next) at.1
  first_gone h (suc p) s o last made (e ∷ more) climbs linked at own first =
      by (has_hash key h e.1.session) refl first (first_gone h p s o e.0 made more climbs.1 linked.1 at own)
    where
      high : e.0 < s
      high = (number_at_place p s o e.0 made more climbs.1 at).0

      by : (b : Bool) → has_hash key h e.1.session ≡ b → cond b (Some e.0) (first_of key h more) ≡ Some s
          → (first_of key h more ≡ Some s → first_of key h (set_value_at more p (emptied o)) ≡ o.next)
          → cond (has_hash key h e.1.session) (Some e.0) (first_of key h (set_value_at more p (emptied o))) ≡ o.next
      by true is first after = absurd (omega (arith, high, same_Some e.0 s first))
      by false is first after = ap (λ b. cond b (Some e.0) (first_of key h (set_value_at more p (emptied o)))) is ∙ after first

  -- another was the first
  first_stays : (h p s : ℕ) (o : Slot) (last made : ℕ) (es : Slots) → Climbs last es made → IsAt p s o es
      → first_of key h es ≢ Some s → first_of key h (set_value_at es p (emptied o)) ≡ first_of key h es
  first_stays h p s o last made [] climbs at other = absurd at
  first_stays h zero s o last made (e ∷ more) climbs at other = by (has_hash key h e.1.session) other
    where
      by : (b : Bool) → (cond b (Some e.0) (first_of key h more) ≡ Some s → ⊥) → first_of key h more ≡ cond b (Some e.0) (first_of key h more)
      by true other = absurd (other (ap Some at.0))
      by false other = refl
  first_stays h (suc p) s o last made (e ∷ more) climbs at other =
      by (has_hash key h e.1.session) other (first_stays h p s o e.0 made more climbs.1 at)
    where
      by : (b : Bool) → (cond b (Some e.0) (first_of key h more) ≡ Some s → ⊥)
          → ((first_of key h more ≡ Some s → ⊥) → first_of key h (set_value_at more p (emptied o)) ≡ first_of key h more)
          → cond b (Some e.0) (first_of key h (set_value_at more p (emptied o))) ≡ cond b (Some e.0) (first_of key h more)
      by true other after = refl
      by false other after = after other

  not_hash : (h k : ℕ) (s : Option SessionRecord) → has_hash key h s ≡ true → (k ≡ h → ⊥) → has_hash key k s ≡ false
  not_hash h k s own apart = by (has_hash key k s) refl
    where
      by : (b : Bool) → has_hash key k s ≡ b → b ≡ false
      by true is = absurd (apart (one_hash key k h s is own))
      by false is = refl

  linked_without_first : (h p s : ℕ) (o : Slot) (last made : ℕ) (es : Slots) → Climbs last es made → AreLinked key es → IsAt p s o es
      → has_hash key h o.session ≡ true → first_of key h es ≡ Some s → AreLinked key (set_value_at es p (emptied o))
  linked_without_first h p s o last made [] climbs linked at own first = absurd at
  linked_without_first h zero s o last made (e ∷ more) climbs linked at own first =
      (λ k none. absurd (true≢false (sym none)), linked.1)
  linked_without_first h (suc p) s o last made (e ∷ more) climbs linked at own first =
      by (has_hash key h e.1.session) refl first (linked_without_first h p s o e.0 made more climbs.1 linked.1 at own)
    where
      high : e.0 < s
      high = (number_at_place p s o e.0 made more climbs.1 at).0

      by : (b : Bool) → has_hash key h e.1.session ≡ b → cond b (Some e.0) (first_of key h more) ≡ Some s
          → (first_of key h more ≡ Some s → AreLinked key (set_value_at more p (emptied o)))
          → AreLinked key (set_value_at (e ∷ more) (suc p) (emptied o))
      by true is first after = absurd (omega (arith, high, same_Some e.0 s first))
      by false is first after = (
        λ k hash. linked.0 k hash
            ∙ sym (first_others k p s o (emptied o) more at
            (not_hash h k o.session own (λ same. true≢false (sym hash ∙ (ap (λ j. has_hash key j e.1.session) same ∙ is)))) refl),
        after first,
      )

  -- a session is taken out, and the one before it leads to the one after it
  module _ (h s m : ℕ) (o z : Slot) (low : m < s) (own : has_hash key h o.session ≡ true) (same : has_hash key h z.session ≡ true)
      (leads : z.next ≡ Some s) where
    bridged : ℕ → ℕ → Slots → Slots
    bridged p q es = set_value_at (set_value_at es q (leading_to o.next z)) p (emptied o)

    apart : m ≡ s → ⊥
    apart e = omega (arith, low, e)

    first_bridged : (k p q last made : ℕ) (es : Slots) → Climbs last es made → IsAt p s o es → IsAt q m z es
        → first_of key k (bridged p q es) ≡ first_of key k es
    unfolding bridged
    first_bridged k p q last made es climbs at there = by (has_hash key k o.session) refl
      where
        es2 : Slots
        es2 = set_value_at es q (leading_to o.next z)

        stands : IsAt p s o es2
        stands = at_else p q s m o z (leading_to o.next z) es at there apart

        linked : first_of key k es2 ≡ first_of key k es
        linked = first_linked k q m z (leading_to o.next z) es refl there

        by : (b : Bool) → has_hash key k o.session ≡ b → first_of key k (set_value_at es2 p (emptied o)) ≡ first_of key k es
        by true is =
            let found = first_low key k q m z last made es climbs there (ap (λ j. has_hash key j z.session) (one_hash key k h o.session is own) ∙ same) in
            first_stays k p s o last made es2 (climbs_set q (leading_to o.next z) last made es climbs) stands
            (λ first. omega (arith, found.2, low, same_Some found.0 s (sym (linked ∙ found.1) ∙ first))) ∙ linked
        by false is = first_others k p s o (emptied o) es2 stands is refl ∙ linked

    linked_bridged : (p q last made : ℕ) (es : Slots) → Climbs last es made → AreLinked key es → IsAt p s o es → IsAt q m z es
        → AreLinked key (bridged p q es)
    unfolding bridged
    linked_bridged p q last made [] climbs linked at there = absurd at
    linked_bridged zero zero last made (e ∷ more) climbs linked at there = absurd (apart (sym there.0 ∙ at.0))
    linked_bridged (suc p) zero last made (e ∷ more) climbs linked at there =
        let first : first_of key h more ≡ Some s =
        sym (linked.0 h (ap (λ (x : Slot). has_hash key h x.session) there.1 ∙ same)) ∙ (ap (λ (x : Slot). x.next) there.1 ∙ leads) in (
          λ k hash. sym (ap (λ j. first_of key j (set_value_at more p (emptied o))) (one_hash key k h z.session hash same)
              ∙ first_gone h p s o e.0 made more climbs.1 linked.1 at own first),
          linked_without_first h p s o e.0 made more climbs.1 linked.1 at own first,
        )
    linked_bridged zero (suc q) last made (e ∷ more) climbs linked at there =
        let high : e.0 < m = (number_at_place q m z e.0 made more climbs.1 there).0 in
        absurd (omega (arith, high, low, at.0))
    linked_bridged (suc p) (suc q) last made (e ∷ more) climbs linked at there = (
      λ k hash. linked.0 k hash ∙ sym (first_bridged k p q e.0 made more climbs.1 at there),
      linked_bridged p q e.0 made more climbs.1 linked.1 at there,
    )

  -- one more at the end
  first_added_other : (h n : ℕ) (o : Slot) (es : Slots) → has_hash key h o.session ≡ false → first_of key h (es ++ (n, o) ∷ []) ≡ first_of key h es
  first_added_other h n o [] other = ap (λ b. cond b (Some n) None) other
  first_added_other h n o (e ∷ more) other = ap (cond (has_hash key h e.1.session) (Some e.0)) (first_added_other h n o more other)

  first_added_some : (h n k : ℕ) (o : Slot) (es : Slots) → first_of key h es ≡ Some k → first_of key h (es ++ (n, o) ∷ []) ≡ Some k
  first_added_some h n k o [] first = absurd (none_some k first)
  first_added_some h n k o (e ∷ more) first = by (has_hash key h e.1.session) first (first_added_some h n k o more)
    where
      by : (b : Bool) → cond b (Some e.0) (first_of key h more) ≡ Some k
          → (first_of key h more ≡ Some k → first_of key h (more ++ (n, o) ∷ []) ≡ Some k)
          → cond b (Some e.0) (first_of key h (more ++ (n, o) ∷ [])) ≡ Some k
      by true first after = first
      by false first after = after first

  -- none of a hash, and so none of it after the first place
  rest_none : (h : ℕ) (e : ℕ × Slot) (more : Slots) → first_of key h (e ∷ more) ≡ None
      → (has_hash key h e.1.session ≡ false) × (first_of key h more ≡ None)
  rest_none h e more none = by (has_hash key h e.1.session) refl none
    where
      by : (b : Bool) → has_hash key h e.1.session ≡ b → cond b (Some e.0) (first_of key h more) ≡ None
          → (has_hash key h e.1.session ≡ false) × (first_of key h more ≡ None)
      by true is none = absurd (none_some e.0 (sym none))
      by false is none = (is, none)

  module _ (h n : ℕ) (o : Slot) (own : has_hash key h o.session ≡ true) where
    first_added_none : (es : Slots) → first_of key h es ≡ None → first_of key h (es ++ (n, o) ∷ []) ≡ Some n
    first_added_none [] none = ap (λ b. cond b (Some n) None) own
    first_added_none (e ∷ more) none =
        let parts = rest_none h e more none in
        ap (λ b. cond b (Some e.0) (first_of key h (more ++ (n, o) ∷ []))) parts.0 ∙ first_added_none more parts.1

    linked_first : (es : Slots) → AreLinked key es → first_of key h es ≡ None → o.next ≡ None → AreLinked key (es ++ (n, o) ∷ [])
    linked_first [] linked none last = (λ k hash. last, tt)
    linked_first (e ∷ more) linked none last =
        let parts = rest_none h e more none in (
          λ k hash. linked.0 k hash
              ∙ sym (first_added_other k n o more
              (not_hash h k o.session own (λ same. true≢false (sym hash ∙ (ap (λ j. has_hash key j e.1.session) same ∙ parts.0))))),
          linked_first more linked.1 parts.1 last,
        )

    -- the last one of the hash leads to it
    module _ (m : ℕ) (z : Slot) (same : has_hash key h z.session ≡ true) (ends : z.next ≡ None) where
      joined : ℕ → Slots → Slots
      joined q es = set_value_at es q (leading_to (Some n) z) ++ (n, o) ∷ []

      first_joined : (k q last made : ℕ) (es : Slots) → Climbs last es made → IsAt q m z es → first_of key k (joined q es) ≡ first_of key k es
      unfolding joined
      first_joined k q last made es climbs there = by (has_hash key k o.session) refl
        where
          es2 : Slots
          es2 = set_value_at es q (leading_to (Some n) z)

          linked : first_of key k es2 ≡ first_of key k es
          linked = first_linked k q m z (leading_to (Some n) z) es refl there

          by : (b : Bool) → has_hash key k o.session ≡ b → first_of key k (es2 ++ (n, o) ∷ []) ≡ first_of key k es
          by true is =
              let found = first_low key k q m z last made es climbs there (ap (λ j. has_hash key j z.session) (one_hash key k h o.session is own) ∙ same) in
              first_added_some k n found.0 o es2 (linked ∙ found.1) ∙ sym found.1
          by false is = first_added_other k n o es2 is ∙ linked

      linked_joined : (q last made : ℕ) (es : Slots) → Climbs last es made → AreLinked key es → IsAt q m z es → o.next ≡ None
          → AreLinked key (joined q es)
      unfolding joined
      linked_joined q last made [] climbs linked there final = absurd there
      linked_joined zero last made (e ∷ more) climbs linked there final =
          let none : first_of key h more ≡ None =
          sym (linked.0 h (ap (λ (x : Slot). has_hash key h x.session) there.1 ∙ same)) ∙ (ap (λ (x : Slot). x.next) there.1 ∙ ends) in (
            λ k hash. sym (ap (λ j. first_of key j (more ++ (n, o) ∷ [])) (one_hash key k h z.session hash same) ∙ first_added_none more none),
            linked_first more linked.1 none final,
          )
      linked_joined (suc q) last made (e ∷ more) climbs linked there final = (
        λ k hash. linked.0 k hash ∙ sym (first_joined k q e.0 made more climbs.1 there),
        linked_joined q e.0 made more climbs.1 linked.1 there final,
      )

  -- what is true of all sessions, once one was added
  pub chained_new : (h n made : ℕ) (o : Slot) (es : Slots) (heads more : List (ℕ × ℕ)) → AreChained key es heads made → made < n
      → has_hash key h o.session ≡ true → o.next ≡ None → first_of key h es ≡ None
      → ((q : ℕ) → lookup (nat_eq q) more ≡ cond (nat_eq h q) (Some n) (lookup (nat_eq q) heads))
      → AreChained key (es ++ (n, o) ∷ []) more n
  chained_new h n made o es heads more had new own last none updates = record {
    climbs = climbs_added n o 0 made es had.climbs new;
    linked = linked_first h n o own es had.linked none last;
    firsts = λ q. updates q ∙ by q (eqb_tells h q);
  }
    where
      by : (q : ℕ) → ((nat_eq h q ≡ true) × (h ≡ q)) ⊎ ((nat_eq h q ≡ false) × (h ≢ q))
          → cond (nat_eq h q) (Some n) (lookup (nat_eq q) heads) ≡ first_of key q (es ++ (n, o) ∷ [])
      by q (inl same) =
          ap (λ b. cond b (Some n) (lookup (nat_eq q) heads)) same.0
          ∙ (sym (first_added_none h n o own es none) ∙ ap (λ k. first_of key k (es ++ (n, o) ∷ [])) same.1)
      by q (inr other) =
          ap (λ b. cond b (Some n) (lookup (nat_eq q) heads)) other.0
          ∙ (had.firsts q ∙ sym (first_added_other q n o es (not_hash h q o.session own (λ e. other.1 (sym e)))))

  pub chained_more : (h n made : ℕ) (o : Slot) (es : Slots) (heads : List (ℕ × ℕ)) (q m : ℕ) (z : Slot) → AreChained key es heads made → made < n
      → has_hash key h o.session ≡ true → o.next ≡ None → IsAt q m z es → has_hash key h z.session ≡ true → z.next ≡ None
      → AreChained key (set_value_at es q (leading_to (Some n) z) ++ (n, o) ∷ []) heads n
  unfolding joined
  chained_more h n made o es heads q m z had new own last at same ends = record {
    climbs = climbs_added n o 0 made (set_value_at es q (leading_to (Some n) z)) (climbs_set q (leading_to (Some n) z) 0 made es had.climbs) new;
    linked = linked_joined h n o own m z same ends q 0 made es had.climbs had.linked at last;
    firsts = λ k. had.firsts k ∙ sym (first_joined h n o own m z same ends k q 0 made es had.climbs at);
  }

  -- and once one was taken away: the first of its hash
  pub chained_without_first : (h s p made : ℕ) (o : Slot) (es : Slots) (heads fewer : List (ℕ × ℕ)) → AreChained key es heads made
      → IsAt p s o es → has_hash key h o.session ≡ true → first_of key h es ≡ Some s
      → ((q : ℕ) → lookup (nat_eq q) fewer ≡ cond (nat_eq h q) o.next (lookup (nat_eq q) heads))
      → AreChained key (set_value_at es p (emptied o)) fewer made
  chained_without_first h s p made o es heads fewer had at own first updates = record {
    climbs = climbs_set p (emptied o) 0 made es had.climbs;
    linked = linked_without_first h p s o 0 made es had.climbs had.linked at own first;
    firsts = λ q. updates q ∙ by q (eqb_tells h q);
  }
    where
      by : (q : ℕ) → ((nat_eq h q ≡ true) × (h ≡ q)) ⊎ ((nat_eq h q ≡ false) × (h ≢ q))
          → cond (nat_eq h q) o.next (lookup (nat_eq q) heads) ≡ first_of key q (set_value_at es p (emptied o))
      by q (inl same) =
          ap (λ b. cond b o.next (lookup (nat_eq q) heads)) same.0
          ∙ (sym (first_gone h p s o 0 made es had.climbs had.linked at own first)
          ∙ ap (λ k. first_of key k (set_value_at es p (emptied o))) same.1)
      by q (inr other) =
          ap (λ b. cond b o.next (lookup (nat_eq q) heads)) other.0
          ∙ (had.firsts q ∙ sym (first_others q p s o (emptied o) es at (not_hash h q o.session own (λ e. other.1 (sym e))) refl))

  -- or a later one
  pub before_it : (h s m q : ℕ) (z : Slot) (made : ℕ) (es : Slots) → Climbs 0 es made → AreLinked key es → IsAt q m z es
      → has_hash key h z.session ≡ true → z.next ≡ Some s → m < s
  before_it h s m q z made es climbs linked at own leads = next_high key h None made es q m z climbs linked at own s leads

  pub chained_bridged : (h s p made : ℕ) (o : Slot) (es : Slots) (heads : List (ℕ × ℕ)) (q m : ℕ) (z : Slot) → AreChained key es heads made
      → IsAt p s o es → has_hash key h o.session ≡ true → IsAt q m z es → has_hash key h z.session ≡ true → z.next ≡ Some s
      → AreChained key (set_value_at (set_value_at es q (leading_to o.next z)) p (emptied o)) heads made
  unfolding bridged
  chained_bridged h s p made o es heads q m z had at own there same leads =
      let low = before_it h s m q z made es had.climbs had.linked there same leads in
      record {
        climbs = climbs_set p (emptied o) 0 made (set_value_at es q (leading_to o.next z)) (climbs_set q (leading_to o.next z) 0 made es had.climbs);
        linked = linked_bridged h s m o z low own same leads p q 0 made es had.climbs had.linked at there;
        firsts = λ k. had.firsts k ∙ sym (first_bridged h s m o z low own same leads k p q 0 made es had.climbs at there);
      }

  -- a slot of the same hash, which leads where it led
  module _ (p n : ℕ) (o w : Slot) (alike : (h : ℕ) → has_hash key h w.session ≡ has_hash key h o.session) (leads : w.next ≡ o.next) where
    first_alike : (h : ℕ) (es : Slots) (q : ℕ) → IsAt q n o es → first_of key h (set_value_at es q w) ≡ first_of key h es
    first_alike h [] q at = absurd at
    first_alike h (e ∷ more) zero at =
        ap (λ b. cond b (Some e.0) (first_of key h more)) (alike h ∙ ap (λ (x : Slot). has_hash key h x.session) (sym at.1))
    first_alike h (e ∷ more) (suc q) at = ap (cond (has_hash key h e.1.session) (Some e.0)) (first_alike h more q at)

    linked_alike : (es : Slots) (q : ℕ) → AreLinked key es → IsAt q n o es → AreLinked key (set_value_at es q w)
    linked_alike [] q linked at = absurd at
    linked_alike (e ∷ more) zero linked at = (
      λ h hash. leads ∙ (ap (λ (x : Slot). x.next) (sym at.1)
          ∙ linked.0 h (ap (λ (x : Slot). has_hash key h x.session) at.1 ∙ (sym (alike h) ∙ hash))),
      linked.1,
    )
    linked_alike (e ∷ more) (suc q) linked at =
        (λ h hash. linked.0 h hash ∙ sym (first_alike h more q at), linked_alike more q linked.1 at)

    pub chained_alike : (es : Slots) (heads : List (ℕ × ℕ)) (made : ℕ) → AreChained key es heads made → IsAt p n o es
        → AreChained key (set_value_at es p w) heads made
    chained_alike es heads made had at = record {
      climbs = climbs_set p w 0 made es had.climbs;
      linked = linked_alike es p had.linked at;
      firsts = λ h. had.firsts h ∙ sym (first_alike h es p at);
    }

  -- the empty places are taken away
  first_filled : (h : ℕ) (es : Slots) → first_of key h (filter is_filled es) ≡ first_of key h es
  first_filled h [] = refl
  first_filled h (e ∷ more) = by e.1.session refl (first_filled h more)
    where
      by : (s : Option SessionRecord) → e.1.session ≡ s → first_of key h (filter is_filled more) ≡ first_of key h more
          → first_of key h (cond (is_some s) (e ∷ filter is_filled more) (filter is_filled more)) ≡ cond (has_hash key h s) (Some e.0) (first_of key h more)
      by None none after = after
      by (Some s) there after = λ i. cond (has_hash key h (there i)) (Some e.0) (after i)

  linked_filled : (es : Slots) → AreLinked key es → AreLinked key (filter is_filled es)
  linked_filled [] linked = tt
  linked_filled (e ∷ more) linked = by (is_some e.1.session) (linked_filled more linked.1)
    where
      by : (b : Bool) → AreLinked key (filter is_filled more) → AreLinked key (cond b (e ∷ filter is_filled more) (filter is_filled more))
      by true after = (λ h hash. linked.0 h hash ∙ sym (first_filled h more), after)
      by false after = after

  pub chained_filled : (es : Slots) (heads : List (ℕ × ℕ)) (made : ℕ) → AreChained key es heads made
      → AreChained key (filter is_filled es) heads made
  chained_filled es heads made had = record {
    climbs = climbs_filled 0 made es had.climbs;
    linked = linked_filled es had.linked;
    firsts = λ h. had.firsts h ∙ sym (first_filled h es);
  }
