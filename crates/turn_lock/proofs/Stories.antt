-- Beginnings of a history, and places in it.
use Rattle.std.proofs.Common.{◌≡◌, ◌≢◌, ◌⊎◌, ℕ, zero, suc, ◌+◌, ◌≤◌, Bool, true, false, eqb}
use Rattle.std.proofs.Common.{List, [], ◌∷◌, ◌++◌, drop, length, get_or}
use Rattle.std.proofs.Common.{sym, refl, ap, ◌∙◌, inl, inr, ⊎_elim, arith, eq-eqb, ne_eqb, append_assoc, length-append}
use Rattle.std.proofs.lemmas.List.{append-nil}
use Rattle.turn_lock.specs.declared.rule.Claim.{Claim}
use Rattle.turn_lock.specs.Views.{times, fresh}
use Rattle.turn_lock.specs.Histories.{Each, StartsWith, places, if_so}
use Rattle.turn_lock.proofs.Sums.{bit_same}

module _ {X : Type 0} where
  pub each_map : (P Q : X → Type 0) → ((x : X) → P x → Q x) → (l : List X) → Each P l → Each Q l
  each_map P Q h [] all = tt
  each_map P Q h (x ∷ xs) all = (h x all.0, each_map P Q h xs all.1)

  pub each_append : (P : X → Type 0) (l m : List X) → Each P l → Each P m → Each P (l ++ m)
  each_append P [] m left right = right
  each_append P (x ∷ xs) m left right = (left.0, each_append P xs m left.1 right)

  pub each_left : (P : X → Type 0) (l m : List X) → Each P (l ++ m) → Each P l
  each_left P [] m all = tt
  each_left P (x ∷ xs) m all = (all.0, each_left P xs m all.1)

  pub each_right : (P : X → Type 0) (l m : List X) → Each P (l ++ m) → Each P m
  each_right P [] m all = all
  each_right P (x ∷ xs) m all = each_right P xs m all.1

module _ {E : Type 0} where
  pub starts_itself : (log : List E) → StartsWith log log
  starts_itself log = ([], sym (append-nil log))

  pub starts_longer : (log more seen : List E) → StartsWith log seen → StartsWith (log ++ more) seen
  starts_longer log more seen h = (h.0 ++ more, ap (λ (l : List E). l ++ more) h.1 ∙ append_assoc seen h.0 more)

  pub starts_through : (a b c : List E) → StartsWith a b → StartsWith b c → StartsWith a c
  starts_through a b c h k = (k.0 ++ h.0, h.1 ∙ (ap (λ (l : List E). l ++ h.0) k.1 ∙ append_assoc c k.0 h.0))

  pub length-starts : (log seen : List E) → StartsWith log seen → length seen ≤ length log
  length-starts log seen h = let size : length log ≡ length seen + length h.0 = ap length h.1 ∙ length-append seen h.0 in omega arith

  -- a beginning of the empty list is empty
  pub starts_nothing : (l : List E) → StartsWith [] l → [] ≡ l
  starts_nothing [] h = refl
  starts_nothing (y ∷ ys) h = let short = length-starts [] (y ∷ ys) h in absurd (omega arith)

  -- a beginning of a list with one entry more is one of the list, or is the whole
  pub starts_before : (log : List E) (e : E) (l : List E) → StartsWith (log ++ e ∷ []) l
      → StartsWith log l ⊎ (log ++ e ∷ [] ≡ l)
  starts_before log e [] h = inl (log, refl)
  starts_before [] e (y ∷ []) h = inr (let same : e ≡ y = ap (λ (l : List E). get_or l 0 e) h.1 in λ i. same i ∷ [])
  starts_before [] e (y ∷ z ∷ zs) h = let short = length-starts (e ∷ []) (y ∷ z ∷ zs) h in absurd (omega arith)
  starts_before (x ∷ xs) e (y ∷ ys) h =
      let same : x ≡ y = ap (λ (l : List E). get_or l 0 x) h.1 in
      let rest : xs ++ e ∷ [] ≡ ys ++ h.0 = ap (drop 1) h.1 in
      ⊎_elim
      (λ old. inl (old.0, λ i. same i ∷ old.1 i))
      (λ all. inr (λ i. same i ∷ all i))
      (starts_before xs e ys (h.0, rest))

module _ {E : Type 0} (line : E → ℕ) where
  if_so-append : (b : Bool) (k : ℕ) (l m : List ℕ) → if_so b k (l ++ m) ≡ if_so b k l ++ m
  if_so-append true k l m = refl
  if_so-append false k l m = refl

  places-push : (n k : ℕ) (log : List E) (e : E) → places line n k (log ++ e ∷ []) ≡ places line n k log ++ if_so (eqb (line e) n) (k + length log) []
  places-push n k [] e = ap (λ (z : ℕ). if_so (eqb (line e) n) z []) (omega arith)
  places-push n k (x ∷ xs) e =
      let last : ℕ → List ℕ = λ z. if_so (eqb (line e) n) z [] in
      ap (if_so (eqb (line x) n) k) (places-push n (suc k) xs e ∙ ap (λ (z : ℕ). places line n (suc k) xs ++ last z) (omega arith))
      ∙ if_so-append (eqb (line x) n) k (places line n (suc k) xs) (last (k + suc (length xs)))

  pub places_of_other : (n k : ℕ) (log : List E) (e : E) → line e ≢ n → places line n k (log ++ e ∷ []) ≡ places line n k log
  places_of_other n k log e apart =
      places-push n k log e
      ∙ (ap (λ (b : Bool). places line n k log ++ if_so b (k + length log) []) (ne_eqb (line e) n apart) ∙ append-nil (places line n k log))

  pub places_of_own : (n : ℕ) (log : List E) (e : E) → line e ≡ n → places line n 0 (log ++ e ∷ []) ≡ places line n 0 log ++ length log ∷ []
  places_of_own n log e same =
      let zero_more : 0 + length log ≡ length log = omega arith in
      places-push n 0 log e
      ∙ (ap (λ (b : Bool). places line n 0 log ++ if_so b (0 + length log) []) (eq-eqb (line e) n same)
      ∙ ap (λ (z : ℕ). places line n 0 log ++ z ∷ []) zero_more)

  -- an entry of no number among the claims leaves them right
  pub claims_of_others : (log : List E) (e : E) (cs : List Claim) → times (line e) cs ≡ 0 → Each (λ c. places line c.number 0 log ≡ c.places) cs
      → Each (λ c. places line c.number 0 (log ++ e ∷ []) ≡ c.places) cs
  claims_of_others log e [] none all = tt
  claims_of_others log e (c ∷ cs) none all =
      let apart : line e ≢ c.number = λ same. let here = bit_same c.number (line e) (sym same) in absurd (omega arith) in
      (places_of_other c.number 0 log e apart ∙ all.0, claims_of_others log e cs (omega arith) all.1)

  pub fresh_are_right : (i k : ℕ) → Each (λ c. places line c.number 0 [] ≡ c.places) (fresh i k)
  fresh_are_right i zero = tt
  fresh_are_right i (suc k) = (refl, fresh_are_right (suc i) k)
