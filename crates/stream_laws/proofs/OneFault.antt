-- Of given bytes there is one first fault or none, and a reading stops there.
use Rattle.std.proofs.Common.{◌≡◌, ℕ, suc, ◌+◌, ◌^◌, ◌<◌, ◌⊎◌, inl, inr, List, [], ◌∷◌, ◌++◌, length, refl, sym, ap, ◌∙◌, subst, append-nil, false, arith}
use Rattle.std.proofs.lemmas.List.{length-append}
use Rattle.std.specs.Prelude.{Some}
use Rattle.stream_lex.proofs.Lists.{same_head, same_tail, false-true}
use Rattle.stream_grammar.specs.declared.FrameFault.{FrameFault}
use Rattle.stream_grammar.specs.declared.item.Limits.{Limits}
use Rattle.stream_grammar.specs.declared.item.Item.{Item}
use Rattle.stream_grammar.specs.declared.item.Item.TheVariants as item
use Rattle.stream_grammar.specs.machine.Reading.{Reading, reads, stopped, first_reading, is_stopped, went, waiting}
use Rattle.stream_grammar.specs.grammar.Bounds.{told_number, rules_of}
use Rattle.stream_grammar.specs.grammar.Parts.{IsItem, AreFaultless, IsFirstFault, IsFault}
use Rattle.stream_laws.proofs.Handing.{stopped-went, went-more}
use Rattle.stream_laws.proofs.Faulting.{some-same}
use Rattle.stream_laws.proofs.Waiting.{item_waits}
use Rattle.stream_laws.proofs.Faultless.{cons-after, goes_faultless, first_waits, first_stops}

-- Two places of one list.

abbrev Apart : List ℕ → ℕ → List ℕ → ℕ → Type 0
Apart xs b us c = ((xs ≡ us) × (b ≡ c)) ⊎ (((zs : List ℕ) × (us ≡ xs ++ (b ∷ zs))) ⊎ ((zs : List ℕ) × (xs ≡ us ++ (c ∷ zs))))

apart-more : (x y : ℕ) (xs us : List ℕ) (b c : ℕ) → x ≡ y → Apart xs b us c → Apart (x ∷ xs) b (y ∷ us) c
apart-more x y xs us b c e (inl (p, q)) = inl (ap (λ (z : ℕ). z ∷ xs) e ∙ ap (λ (z : List ℕ). y ∷ z) p, q)
apart-more x y xs us b c e (inr (inl (zs, p))) = inr (inl (zs, ap (λ (z : List ℕ). y ∷ z) p ∙ ap (λ (z : ℕ). z ∷ (xs ++ (b ∷ zs))) (sym e)))
apart-more x y xs us b c e (inr (inr (zs, p))) = inr (inr (zs, ap (λ (z : List ℕ). x ∷ z) p ∙ ap (λ (z : ℕ). z ∷ (us ++ (c ∷ zs))) e))

apart : (xs us ys vs : List ℕ) (b c : ℕ) → xs ++ (b ∷ ys) ≡ us ++ (c ∷ vs) → Apart xs b us c
apart [] [] ys vs b c e = inl (refl, same_head b c ys vs e)
apart [] (u ∷ us) ys vs b c e = inr (inl (us, ap (λ (z : ℕ). z ∷ us) (sym (same_head b u ys (us ++ (c ∷ vs)) e))))
apart (x ∷ xs) [] ys vs b c e = inr (inr (xs, ap (λ (z : ℕ). z ∷ xs) (same_head x c (xs ++ (b ∷ ys)) vs e)))
apart (x ∷ xs) (u ∷ us) ys vs b c e =
    apart-more x u xs us b c (same_head x u (xs ++ (b ∷ ys)) (us ++ (c ∷ vs)) e) (apart xs us ys vs b c (same_tail x u (xs ++ (b ∷ ys)) (us ++ (c ∷ vs)) e))

-- A reading stops at the place.

stopped-fault : (x y : FrameFault) (i j : ℕ) → stopped x i ≡ stopped y j → x ≡ y
stopped-fault x y i j e = cc

stopped-number : (x y : FrameFault) (i j : ℕ) → stopped x i ≡ stopped y j → i ≡ j
stopped-number x y i j e = cc

stays : (l : Limits) (xs ys : List ℕ) (b : ℕ) (f : FrameFault) (n : ℕ) → went l first_reading (xs ++ b ∷ []) ≡ stopped f n
    → went l first_reading (xs ++ (b ∷ ys)) ≡ stopped f n
stays l xs ys b f n e =
    ap (went l first_reading) (sym (cons-after xs ys b))
    ∙ (went-more l first_reading (xs ++ b ∷ []) ys ∙ (ap (λ (s : Reading). went l s ys) e ∙ stopped-went l f n ys))

pub place_stops : (l : Limits) (bytes : List ℕ) (k : ℕ) (f : FrameFault) → IsFault l bytes k f → went l first_reading bytes ≡ stopped f (told_number k)
place_stops l bytes k f (xs, b, ys, e, number, first) =
    ap (went l first_reading) e
    ∙ (stays l xs ys b f (told_number (length xs + 1)) (first_stops l xs b f first) ∙ ap (λ (i : ℕ). stopped f (told_number i)) (sym number))

-- One place, and one fault there.

same-place : (l : Limits) (xs us : List ℕ) (b c : ℕ) (f g : FrameFault) → Apart xs b us c → IsFirstFault l xs b f → IsFirstFault l us c g → xs ≡ us
same-place l xs us b c f g (inl (p, q)) (none, is) (clean, has) = p
same-place l xs us b c f g (inr (inl (zs, p))) (none, is) (clean, has) = absurd (clean xs zs b f p is)
same-place l xs us b c f g (inr (inr (zs, p))) (none, is) (clean, has) = absurd (none us zs c g p has)

pub one_fault : (l : Limits) (bytes : List ℕ) (j k : ℕ) (f g : FrameFault) → IsFault l bytes j f → IsFault l bytes k g → (j ≡ k) × (f ≡ g)
one_fault l bytes j k f g (xs, b, ys, e, number, first) (us, c, vs, h, other, next) =
    let same : xs ≡ us = same-place l xs us b c f g (apart xs us ys vs b c (sym e ∙ h)) first next in (
      number ∙ (ap (λ (x : List ℕ). length x + 1) same ∙ sym other),
      stopped-fault f g _ _ (sym (place_stops l bytes j f (xs, b, ys, e, number, first)) ∙ place_stops l bytes k g (us, c, vs, h, other, next)),
    )

pub none_else : (l : Limits) (bytes : List ℕ) (k : ℕ) (f : FrameFault) → IsFault l bytes k f → AreFaultless l bytes → ⊥
none_else l bytes k f (xs, b, ys, e, number, first) none = none xs ys b f e first.1

-- A reading that has stopped stopped at the place of the fault.

abbrev Told : Limits → List ℕ → ℕ → FrameFault → Type 0
Told l bytes n f = (k : ℕ) × (n ≡ told_number k) × IsFault l bytes k f

told-on : (l : Limits) (xs ys : List ℕ) (n : ℕ) (f : FrameFault) → is_stopped (went l first_reading xs) ≡ false → went l first_reading (xs ++ ys) ≡ stopped f n
    → Told l (xs ++ ys) n f
told-on l xs [] n f o e = false-true (sym o ∙ ap is_stopped (ap (went l first_reading) (sym (append-nil xs)) ∙ e))
told-on l xs (b ∷ ys) n f o e = by (λ p. told-on l (xs ++ b ∷ []) ys n f p (ap (went l first_reading) (cons-after xs ys b) ∙ e))
    (went l first_reading (xs ++ b ∷ [])) refl
  where
    by : (is_stopped (went l first_reading (xs ++ b ∷ [])) ≡ false → Told l ((xs ++ b ∷ []) ++ ys) n f) → (s : Reading)
        → went l first_reading (xs ++ b ∷ []) ≡ s → Told l (xs ++ (b ∷ ys)) n f
    by go (reads x c m k) h = subst (λ (z : List ℕ). Told l z n f) (cons-after xs ys b) (go (ap is_stopped h))
    by go (stopped g m) h =
        let same : stopped g m ≡ stopped f n = sym (stays l xs ys b g m h) ∙ e in
        let (first, number) = first_waits l xs b g m (goes_faultless l xs o) h in
        (length xs + 1, sym (stopped-number g f m n same) ∙ number, (xs, b, ys, refl, refl, subst (IsFirstFault l xs b) (stopped-fault g f m n same) first))

pub place_told : (l : Limits) (bytes : List ℕ) (n : ℕ) (f : FrameFault) → went l first_reading bytes ≡ stopped f n
    → (k : ℕ) × (n ≡ told_number k) × IsFault l bytes k f
place_told l bytes n f e = told-on l [] bytes n f refl e

within : (l : Limits) (bytes : List ℕ) (k : ℕ) (f : FrameFault) → IsFault l bytes k f → k < length bytes + 1
within l bytes k f (xs, b, ys, e, number, first) = let long : length bytes ≡ length xs + suc (length ys) = ap length e
    ∙ length-append xs (b ∷ ys) in omega (arith, long, number)

pub place_exact : (l : Limits) (bytes : List ℕ) (k : ℕ) (f : FrameFault) → length bytes < 2 ^ 64 → went l first_reading bytes ≡ stopped f k
    → IsFault l bytes k f
place_exact l bytes k f short e =
    let (n, number, is) = place_told l bytes k f e in
    subst (λ (i : ℕ). IsFault l bytes i f)
    (let low : n < length bytes + 1 = within l bytes n f is in let same : n ≡ k = omega (arith, short, low, number) in same) is

pub fault_or_none : (l : Limits) (bytes : List ℕ) → AreFaultless l bytes ⊎ ((k : ℕ) × (f : FrameFault) × IsFault l bytes k f)
fault_or_none l bytes = by (went l first_reading bytes) refl
  where
    by : (s : Reading) → went l first_reading bytes ≡ s → AreFaultless l bytes ⊎ ((k : ℕ) × (f : FrameFault) × IsFault l bytes k f)
    by (reads x c m k) e = inl (goes_faultless l bytes (ap is_stopped e))
    by (stopped f n) e = let (k, number, is) = place_told l bytes n f e in inr (k, f, is)

-- What waits.

pub item_or_fault : (l : Limits) (bytes : List ℕ) (b : ℕ) (i : Item) → waiting (went l first_reading (bytes ++ b ∷ [])) ≡ Some i
    → IsItem (rules_of l) (bytes ++ b ∷ []) i ⊎ ((k : ℕ) × (f : FrameFault) × (i ≡ item.Broken f (told_number k)) × IsFault l (bytes ++ b ∷ []) k f)
item_or_fault l bytes b i e = by (went l first_reading (bytes ++ b ∷ [])) refl
  where
    by : (s : Reading) → went l first_reading (bytes ++ b ∷ []) ≡ s
        → IsItem (rules_of l) (bytes ++ b ∷ []) i ⊎ ((k : ℕ) × (f : FrameFault) × (i ≡ item.Broken f (told_number k)) × IsFault l (bytes ++ b ∷ []) k f)
    by (reads x c m n) h = inl (item_waits l bytes b i (ap is_stopped h) e)
    by (stopped f n) h =
        let (k, number, is) = place_told l (bytes ++ b ∷ []) n f h in
        inr (k, f, some-same i (item.Broken f n) (sym e ∙ ap waiting h) ∙ ap (λ (j : ℕ). item.Broken f j) number, is)
