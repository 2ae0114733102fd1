-- The lists of the rows' ids, as rows come and go.
use Rattle.std.proofs.Common.{◌≡◌, ℕ, ◌+◌, ◌-◌, ◌<◌, ◌≤◌, List, [], ◌∷◌, ◌++◌, drop, map, Bool, true, false, nat_eq, refl, ap, sym, ◌∙◌, subst, arith, if◌then◌else◌}
use Rattle.std.specs.Prelude.{not, Option, Some, None, slice_get}
use Rattle.std.specs.List.{AllByRecursion}
use Rattle.std.proofs.lemmas.Bool.{eqb-true}
use Rattle.std.proofs.lemmas.List.Elements.{filter-append}
use Rattle.hash_keys.specs.declared.key.HashKey.{HashKey}
use Rattle.jid_core.specs.Addresses.{Address}
use Rattle.rsm_paging.specs.Pages.{Follow, id_of, row_numbered}
use Rattle.rsm_paging.specs.declared.ask.Row.{Row}
use Rattle.rsm_paging.proofs.ListedLemmas.{all-found}
use Rattle.rsm_paging.proofs.PageLemmas.{map-append}
use Rattle.rsm_paging.proofs.RiseLemmas.{kept-all}
use Rattle.mam_archive.specs.Lists.{AreAlike, AreOf, Entries, IdList, IsBlank, IsListed, KeepsOthers, held, list_at, rows_with}
use Rattle.mam_archive.specs.Peers.{face, key}
use Rattle.mam_archive.specs.declared.peers.Extent.{Extent}

pub nat_eq-same : (k : ℕ) → nat_eq k k ≡ true
nat_eq-same k = grind arith

none-by-ids : (rows : List Row) → [] ≡ map id_of rows → rows ≡ []
none-by-ids [] is = refl
none-by-ids (r ∷ rows) is = absurd (let z : ◌≡◌ {A = List ℕ} [] (r.id ∷ map id_of rows) = is in cc)

-- what is done at a key, and what isn't

-- a fact of each list is one of the list at the key, and of the others
by-key : (P : ℕ → IdList → Type 0) (k : ℕ) (old new : Entries) → KeepsOthers k old new → ((q : ℕ) → P q (list_at q old))
    → P k (list_at k new) → (q : ℕ) → P q (list_at q new)
by-key P k old new others each here q = by (nat_eq k q) refl where
  by : (b : Bool) → nat_eq k q ≡ b → P q (list_at q new)
  by true is = subst (λ (n : ℕ). P n (list_at n new)) (eqb-true k q is) here
  by false is = subst (P q) (sym (others q is)) (each q)

-- the first row goes

dropped-ids : (b : Bool) (first : Row) (rest : List Row) (ids : List ℕ) → ids ≡ map id_of (if b then first ∷ rest else rest)
    → (if b then drop 1 ids else ids) ≡ map id_of rest
dropped-ids true first rest ids is = ap (drop 1) is
dropped-ids false first rest ids is = is

alike-rest : (e : Extent) (b : Bool) (first : Row) (rest : List Row) → AreAlike e (if b then first ∷ rest else rest) → AreAlike e rest
alike-rest e true first rest all = (all.0, all.1.1)
alike-rest e false first rest all = all

-- a row comes

of-more : (e : Extent) (a : Address) (rows more : List Row) → AreOf e a rows → AreOf e a more → AreOf e a (rows ++ more)
of-more e a [] more all rest = rest
of-more e a (r ∷ rows) more all rest = (all.0, of-more e a rows more all.1 rest)

first-found : (rows found : List Row) → AllByRecursion (λ x. row_numbered (Some x.id) rows ≡ Some x) found → (first : ℕ) (row : Row)
    → slice_get (map id_of found) 0 ≡ Some first → Some row ≡ row_numbered (Some first) rows → (h : Row) (more : List Row) → found ≡ h ∷ more → row ≡ h
first-found rows found all first row at is h more whole =
    let each = subst (AllByRecursion (λ x. row_numbered (Some x.id) rows ≡ Some x)) whole all in
    let head : ◌≡◌ {A = Option ℕ} (Some h.id) (Some first) = sym (ap (λ (l : List Row). slice_get (map id_of l) 0) whole) ∙ at in
    let same : h.id ≡ first = some-same h.id first head in
    some-row row h (is ∙ ap (λ (n : ℕ). row_numbered (Some n) rows) (sym same) ∙ each.0)
  where
    some-same : (a b : ℕ) → ◌≡◌ {A = Option ℕ} (Some a) (Some b) → a ≡ b
    some-same a b is = cc

    some-row : (a b : Row) → Some a ≡ Some b → a ≡ b
    some-row a b is = ap (or_else a) is where
      or_else : Row → Option Row → Row
      or_else d None = d
      or_else d (Some r) = r

same-of : (e : Extent) (a b : Address) (rows : List Row) → a ≡ b → AreOf e a rows → AreOf e b rows
same-of e a b rows is all = subst (λ (x : Address). AreOf e x rows) is all

module _ (hash_key : HashKey) where
  pub listed-same : (e : Extent) (rows : List Row) (made k : ℕ) (old new : Entries) → KeepsOthers k old new → IsListed hash_key e rows made old
      → (list_at k new).ids ≡ (list_at k old).ids → (list_at k new).until ≤ made + (list_at k new).free
      → ((list_at k new).mixed ≡ false → AreAlike e (rows_with hash_key e k rows)) → IsListed hash_key e rows made new
  listed-same e rows made k old new others was ids room alike = record {
    ids = by-key (λ q l. l.ids ≡ map id_of (rows_with hash_key e q rows)) k old new others was.ids (ids ∙ was.ids k);
    room = by-key (λ q l. l.until ≤ made + l.free) k old new others was.room room;
    alike = by-key (λ q l. l.mixed ≡ false → AreAlike e (rows_with hash_key e q rows)) k old new others was.alike alike;
  }

  -- a list that is blank leaves

  pub listed-taken : (e : Extent) (rows : List Row) (made k : ℕ) (old new : Entries) → KeepsOthers k old new → IsBlank made (list_at k old)
      → list_at k new ≡ held None → IsListed hash_key e rows made old → IsListed hash_key e rows made new
  listed-taken e rows made k old new others blank gone was =
      let none : rows_with hash_key e k rows ≡ [] = none-by-ids (rows_with hash_key e k rows) (sym blank.ids ∙ was.ids k) in
      listed-same e rows made k old new others was (ap (λ l. l.ids) gone ∙ sym blank.ids)
      (subst (λ (l : IdList). l.until ≤ made + l.free) (sym gone) (omega arith))
      (λ _. subst (AreAlike e) (sym none) (record { local = None; domain = []; resource = None }, tt))

  pub listed-dropped : (e : Extent) (first : Row) (more : List Row) (made : ℕ) (old new : Entries) → KeepsOthers (key hash_key e first.peer) old new
      → (list_at (key hash_key e first.peer) new).ids ≡ drop 1 (list_at (key hash_key e first.peer) old).ids
      → (list_at (key hash_key e first.peer) new).until ≡ (list_at (key hash_key e first.peer) old).until
      → (list_at (key hash_key e first.peer) new).mixed ≡ (list_at (key hash_key e first.peer) old).mixed
      → ((list_at (key hash_key e first.peer) old).until ≤ made + (list_at (key hash_key e first.peer) old).free
      → (list_at (key hash_key e first.peer) new).until ≤ made + (list_at (key hash_key e first.peer) new).free)
      → IsListed hash_key e (first ∷ more) made old → IsListed hash_key e more made new
  listed-dropped e first more made old new others ids until mixed free was =
      let k : ℕ = key hash_key e first.peer in
      let own : nat_eq k k ≡ true = nat_eq-same k in
      let whole : rows_with hash_key e k (first ∷ more) ≡ first ∷ rows_with hash_key e k more =
      ap (λ (b : Bool). if b then first ∷ rows_with hash_key e k more else rows_with hash_key e k more) own in
      record {
        ids = λ q. each q (nat_eq k q) refl;
        room = by-key (λ q l. l.until ≤ made + l.free) k old new others was.room (free (was.room k));
        alike = λ q is. alike-rest e (nat_eq q k) first (rows_with hash_key e q more) (was.alike q (mixed-at q (nat_eq k q) refl is));
      }
    where
      flip : (q : ℕ) → nat_eq (key hash_key e first.peer) q ≡ false → nat_eq q (key hash_key e first.peer) ≡ false
      flip q is = grind arith

      each : (q : ℕ) (b : Bool) → nat_eq (key hash_key e first.peer) q ≡ b → (list_at q new).ids ≡ map id_of (rows_with hash_key e q more)
      each q true is =
          let k : ℕ = key hash_key e first.peer in
          subst (λ (n : ℕ). (list_at n new).ids ≡ map id_of (rows_with hash_key e n more)) (eqb-true k q is)
          (ids ∙ ap (drop 1) (was.ids k
          ∙ ap (λ (b : Bool). map id_of (if b then first ∷ rows_with hash_key e k more else rows_with hash_key e k more)) (nat_eq-same k)))
      each q false is =
          ap (λ l. l.ids) (others q is) ∙ was.ids q
          ∙ ap (λ (b : Bool). map id_of (if b then first ∷ rows_with hash_key e q more else rows_with hash_key e q more)) (flip q is)

      mixed-at : (q : ℕ) (b : Bool) → nat_eq (key hash_key e first.peer) q ≡ b → (list_at q new).mixed ≡ false → (list_at q old).mixed ≡ false
      mixed-at q true is fine =
          let same : key hash_key e first.peer ≡ q = eqb-true (key hash_key e first.peer) q is in
          subst (λ (n : ℕ). (list_at n old).mixed ≡ false) same (sym mixed ∙ subst (λ (n : ℕ). (list_at n new).mixed ≡ false) (sym same) fine)
      mixed-at q false is fine = sym (ap (λ l. l.mixed) (others q is)) ∙ fine

  -- the same by another word for the key
  pub dropped-by : (e : Extent) (at : ℕ) (peer : Address) (made : ℕ) (old new : Entries) → at ≡ key hash_key e peer → KeepsOthers at old new
      → (list_at at new).ids ≡ drop 1 (list_at at old).ids
      → list_at at new ≡ record (list_at at old) { ids = (list_at at new).ids; free = (list_at at new).free }
      → ((list_at at old).until ≤ made + (list_at at old).free → (list_at at new).until ≤ made + (list_at at new).free) → (first : Row) (more : List Row)
      → IsListed hash_key e (first ∷ more) made old → first.peer ≡ peer → IsListed hash_key e more made new
  dropped-by e at peer made old new word others ids same free first more was is =
      let here : at ≡ key hash_key e first.peer = word ∙ ap (key hash_key e) (sym is) in
      listed-dropped e first more made old new
      (subst (λ (k : ℕ). KeepsOthers k old new) here others)
      (subst (λ (k : ℕ). (list_at k new).ids ≡ drop 1 (list_at k old).ids) here ids)
      (subst (λ (k : ℕ). (list_at k new).until ≡ (list_at k old).until) here (ap (λ (l : IdList). l.until) same))
      (subst (λ (k : ℕ). (list_at k new).mixed ≡ (list_at k old).mixed) here (ap (λ (l : IdList). l.mixed) same))
      (subst (λ (k : ℕ). (list_at k old).until ≤ made + (list_at k old).free → (list_at k new).until ≤ made + (list_at k new).free) here free)
      was

  pub listed-added : (e : Extent) (rows : List Row) (row : Row) (made : ℕ) (old new : Entries) (only : Bool) → KeepsOthers (key hash_key e row.peer) old new
      → list_at (key hash_key e row.peer) new ≡ record {
        ids = (list_at (key hash_key e row.peer) old).ids ++ row.id ∷ [];
        free = (list_at (key hash_key e row.peer) old).free - 1;
        until = (list_at (key hash_key e row.peer) old).until;
        mixed = not only;
      }
      → 0 < (list_at (key hash_key e row.peer) old).free → (only ≡ true → AreOf e (face e row.peer) (rows_with hash_key e (key hash_key e row.peer) rows))
      → IsListed hash_key e rows made old → IsListed hash_key e (rows ++ row ∷ []) (made + 1) new
  listed-added e rows row made old new only others here free alone was = record {
    ids = λ q. each q (nat_eq (key hash_key e row.peer) q) refl;
    room =
        by-key (λ q l. l.until ≤ made + 1 + l.free) (key hash_key e row.peer) old new others (λ q. let fits = was.room q in omega (arith, fits))
        (subst (λ (l : IdList). l.until ≤ made + 1 + l.free) (sym here) (let fits = was.room (key hash_key e row.peer) in omega (arith, fits, free)));
    alike = λ q is. alike q (nat_eq (key hash_key e row.peer) q) refl is;
  }
    where
      k : ℕ
      k = key hash_key e row.peer

      flip : (q : ℕ) → nat_eq k q ≡ false → nat_eq q k ≡ false
      flip q is = grind arith

      -- the rows of a key
      own : rows_with hash_key e k (rows ++ row ∷ []) ≡ rows_with hash_key e k rows ++ row ∷ []
      own =
          filter-append (λ r. nat_eq k (key hash_key e r.peer)) rows (row ∷ [])
          ∙ ap (λ (b : Bool). rows_with hash_key e k rows ++ (if b then row ∷ [] else [])) (nat_eq-same k)

      other : (q : ℕ) → nat_eq k q ≡ false → rows_with hash_key e q rows ≡ rows_with hash_key e q (rows ++ row ∷ [])
      other q is =
          append-none (rows_with hash_key e q rows)
          ∙ ap (λ (b : Bool). rows_with hash_key e q rows ++ (if b then row ∷ [] else [])) (sym (flip q is))
          ∙ sym (filter-append (λ r. nat_eq q (key hash_key e r.peer)) rows (row ∷ []))
        where
          append-none : (xs : List Row) → xs ≡ xs ++ []
          append-none [] = refl
          append-none (x ∷ xs) = ap (λ l. x ∷ l) (append-none xs)

      each : (q : ℕ) (b : Bool) → nat_eq k q ≡ b → (list_at q new).ids ≡ map id_of (rows_with hash_key e q (rows ++ row ∷ []))
      each q true is =
          subst (λ (n : ℕ). (list_at n new).ids ≡ map id_of (rows_with hash_key e n (rows ++ row ∷ []))) (eqb-true k q is)
          (ap (λ l. l.ids) here ∙ ap (λ (l : List ℕ). l ++ row.id ∷ []) (was.ids k) ∙ sym (map-append id_of (rows_with hash_key e k rows) (row ∷ []))
          ∙ ap (map id_of) (sym own))
      each q false is = ap (λ l. l.ids) (others q is) ∙ was.ids q ∙ ap (map id_of) (other q is)

      not-not : (b : Bool) → not b ≡ false → b ≡ true
      not-not true is = refl
      not-not false is = absurd (let z : true ≡ false = is in cc)

      alike : (q : ℕ) (b : Bool) → nat_eq k q ≡ b → (list_at q new).mixed ≡ false → AreAlike e (rows_with hash_key e q (rows ++ row ∷ []))
      alike q true is fine =
          let same : k ≡ q = eqb-true k q is in
          let now : (list_at k new).mixed ≡ false = subst (λ (n : ℕ). (list_at n new).mixed ≡ false) (sym same) fine in
          let sole = not-not only (sym (ap (λ l. l.mixed) here) ∙ now) in
          subst (λ (n : ℕ). AreAlike e (rows_with hash_key e n (rows ++ row ∷ []))) same
          (subst (AreAlike e) (sym own) (face e row.peer, of-more e (face e row.peer) (rows_with hash_key e k rows) (row ∷ []) (alone sole) (refl, tt)))
      alike q false is fine = subst (AreAlike e) (other q is) (was.alike q (sym (ap (λ l. l.mixed) (others q is)) ∙ fine))

  -- whose rows are in a list

  pub none-of : (e : Extent) (rows : List Row) (made : ℕ) (es : Entries) (peer : Address) → IsListed hash_key e rows made es
      → [] ≡ (list_at (key hash_key e peer) es).ids → AreOf e (face e peer) (rows_with hash_key e (key hash_key e peer) rows)
  none-of e rows made es peer was none =
      let is : rows_with hash_key e (key hash_key e peer) rows ≡ [] =
      none-by-ids (rows_with hash_key e (key hash_key e peer) rows) (none ∙ was.ids (key hash_key e peer)) in
      subst (AreOf e (face e peer)) (sym is) tt

  pub only-of : (e : Extent) (rows : List Row) (made : ℕ) (es : Entries) (peer : Address) (first : ℕ) (row : Row) → ((n : ℕ) × Follow n rows)
      → IsListed hash_key e rows made es → Some first ≡ slice_get (list_at (key hash_key e peer) es).ids 0 → Some row ≡ row_numbered (Some first) rows
      → (list_at (key hash_key e peer) es).mixed ≡ false → face e row.peer ≡ face e peer
      → AreOf e (face e peer) (rows_with hash_key e (key hash_key e peer) rows)
  only-of e rows made es peer first row ids was at found fine same =
      by (rows_with hash_key e (key hash_key e peer) rows) refl (was.alike (key hash_key e peer) fine)
      (kept-all (λ x. row_numbered (Some x.id) rows ≡ Some x) (λ r. nat_eq (key hash_key e peer) (key hash_key e r.peer)) rows (all-found ids.0 rows ids.1))
    where
      by : (found-rows : List Row) → rows_with hash_key e (key hash_key e peer) rows ≡ found-rows → AreAlike e found-rows
          → AllByRecursion (λ x. row_numbered (Some x.id) rows ≡ Some x) found-rows → AreOf e (face e peer) found-rows
      by [] is alike all = tt
      by (h ∷ more) is alike all =
          let head : row ≡ h =
          first-found rows (h ∷ more) all first row
          (ap (λ (l : List Row). slice_get (map id_of l) 0) (sym is) ∙ ap (λ (l : List ℕ). slice_get l 0) (sym (was.ids (key hash_key e peer))) ∙ sym at)
          found h more refl in
          same-of e alike.0 (face e peer) (h ∷ more) (sym alike.1.0 ∙ ap (λ (r : Row). face e r.peer) (sym head) ∙ same) alike.1

  -- no rows

  pub listed-none : (e : Extent) (es : Entries) → es ≡ [] → IsListed hash_key e [] 0 es
  listed-none e es is = subst (IsListed hash_key e [] 0) (sym is) (record {
    ids = λ k. refl;
    room = λ k. omega arith;
    alike = λ k _. (record { local = None; domain = []; resource = None }, tt);
  })
