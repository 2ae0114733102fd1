-- A session that leaves its line.
use Rattle.std.proofs.Common.{◌≡◌, inl, inr, ℕ, ◌<◌, cond, nat_eq, Bool, false, ◌||◌, List, [], ◌∷◌, length}
use Rattle.std.proofs.Common.{Option, Some, None, refl, sym, ap, subst, ◌∙◌, arith}
use Rattle.std.specs.Prelude.{IsSomeAnd}
use Rattle.std.specs.List.{list_any}
use Rattle.std.proofs.lemmas.Bool.{eq-eqb, ne_eqb}
use Rattle.std.proofs.lemmas.Bool.Decides.{eqb_tells}
use Rattle.std.proofs.lemmas.Option.{same_Some}
use Rattle.std.specs.Map.{lookup}
use Rattle.std.specs.Option.{option_map}
use Rattle.session_table.specs.declared.life.Life.TheVariants.{Live}
use Rattle.session_table.specs.declared.line.Line as stage
use Rattle.session_table.specs.declared.line.Line.TheVariants.{Empty, Bound}
use Rattle.session_table.specs.Sessions.{SessionRecord}
use Rattle.session_table.specs.Tables.{TableRecord, Rises, session_of, changed, with_line, is_line, holds}
use Rattle.house_world.specs.Wholes.{IsSession, IsFreeLine, IsTied}
use Rattle.house_world.proofs.ReadLemmas.{place_set}
use Rattle.house_world.proofs.TiedLemmas.{IsUnbound, changed_is, changed_else}

-- the number of a session that is among the later ones
later_than : (n last made : ℕ) (es : List (ℕ × SessionRecord)) (x : SessionRecord) → Rises last es made → lookup (nat_eq n) es ≡ Some x
    → last < n
later_than n last made [] x rises at = absurd (let z : None ≡ Some x = at in cc)
later_than n last made (e ∷ more) x rises at = elim (eqb_tells n e.0) [
  | inl p ↦ (let low = rises.0 in let is = p.1 in omega (arith, low, is))
  | inr p ↦ (
      let rest : lookup (nat_eq n) more ≡ Some x = sym (ap (λ (b : Bool). cond b (Some e.1) (lookup (nat_eq n) more)) p.0) ∙ at in
      let low = rises.0 in
      let more_low = later_than n e.0 made more x rises.1 rest in
      omega (arith, low, more_low))
]

is_line_not : (w : ℕ) (h : Option ℕ) → (h ≡ Some w → ⊥) → is_line w h ≡ false
is_line_not w None not = refl
is_line_not w (Some v) not = ne_eqb w v (λ e. not (ap Some (sym e)))

-- where no session is held, the table finds none
none_holds : (w last made : ℕ) (es : List (ℕ × SessionRecord)) → Rises last es made
    → ((s : ℕ) (x : SessionRecord) → lookup (nat_eq s) es ≡ Some x → x.holder ≡ Some w → ⊥)
    → list_any (λ (e : ℕ × SessionRecord). is_line w e.1.holder) es ≡ false
none_holds w last made [] rises free = refl
none_holds w last made (e ∷ more) rises free =
    let here : is_line w e.1.holder ≡ false =
    is_line_not w e.1.holder (free e.0 e.1 (ap (λ (b : Bool). cond b (Some e.1) (lookup (nat_eq e.0) more)) (eq-eqb e.0 e.0 refl))) in
    let rest = none_holds w e.0 made more rises.1 (λ s x at.
    let apart = later_than s e.0 made more x rises.1 at in
    free s x (ap (λ (b : Bool). cond b (Some e.1) (lookup (nat_eq s) more)) (ne_eqb s e.0 (λ is. omega (arith, apart, is))) ∙ at)) in
    (λ i. here i || rest i)

pub free_holds : (w : ℕ) (t : TableRecord) → Rises 0 t.sessions t.made → IsFreeLine w t → holds w t ≡ false
free_holds w t rises free = none_holds w 0 t.made t.sessions rises free

-- who holds a session, as a line tells
pub two_held : (w : ℕ) (t : TableRecord) (s n : ℕ) (x y : SessionRecord) → IsTied t → session_of s t ≡ Some x → x.holder ≡ Some w
    → session_of n t ≡ Some y → y.holder ≡ Some w → n ≡ s
two_held w t s n x y tied at holder at' holder' =
    let one = tied.holds s w x at holder in
    let two = tied.holds n w y at' holder' in
    let same : Bound one.1.0 s ≡ Bound two.1.0 n = sym one.1.1 ∙ two.1.1 in
    cc

pub free_after : (w s : ℕ) (f : SessionRecord → SessionRecord) (t : TableRecord) (x : SessionRecord) → IsTied t → session_of s t ≡ Some x
    → x.holder ≡ Some w → (f x).holder ≡ None → IsFreeLine w (changed s f t)
free_after w s f t x tied at holder left = λ n y is holder'. elim (changed_is s n f t y is) [
  | inl p ↦ (
      let same : f x ≡ y = same_Some (f x) y (ap (option_map f) (sym at) ∙ p.1) in
      let z : ◌≡◌ {A = Option ℕ} None (Some w) = sym left ∙ (ap (λ (u : SessionRecord). u.holder) same ∙ holder') in
      cc)
  | inr p ↦ p.0 (two_held w t s n x y tied at holder p.1 holder')
]

pub tied_off : (w s : ℕ) (f : SessionRecord → SessionRecord) (l : stage.Line) (t : TableRecord) (x : SessionRecord) → IsTied t
    → w < length t.lines → session_of s t ≡ Some x → x.holder ≡ Some w → (f x).holder ≡ None → IsSession (f x) → IsUnbound l
    → IsTied (with_line w l (changed s f t))
tied_off w s f l t x tied low at holder left ready unbound = record {
  bound = λ v c n is. elim (place_set t.lines w v l Empty low) [
    | inl p ↦ absurd (unbound c n (sym p.1 ∙ is))
    | inr p ↦
        let old = tied.bound v c n (sym p.1 ∙ is) in
        let other : n ≡ s → ⊥ = (λ e.
        let here : IsSomeAnd (Some x) (λ z. (z.state ≡ Live) × (z.holder ≡ Some v)) =
        subst (λ (o : Option SessionRecord). IsSomeAnd o (λ z. (z.state ≡ Live) × (z.holder ≡ Some v)))
        (ap (λ k. session_of k t) e ∙ at) old in
        p.0 (same_Some v w (sym here.1 ∙ holder))) in
        subst (λ (o : Option SessionRecord). IsSomeAnd o (λ z. (z.state ≡ Live) × (z.holder ≡ Some v))) (sym (changed_else s n f t other)) old
  ];
  holds = λ n v y is holder'. elim (changed_is s n f t y is) [
    | inl p ↦ absurd (
        let same : f x ≡ y = same_Some (f x) y (ap (option_map f) (sym at) ∙ p.1) in
        let z : ◌≡◌ {A = Option ℕ} None (Some v) = sym left ∙ (ap (λ (u : SessionRecord). u.holder) same ∙ holder') in
        cc)
    | inr p ↦
        let old = tied.holds n v y p.1 holder' in
        elim (place_set t.lines w v l Empty low) [
          | inl q ↦ absurd (p.0 (two_held w t s n x y tied at holder p.1 (holder' ∙ ap Some q.0)))
          | inr q ↦ (old.0, (old.1.0, q.1 ∙ old.1.1))
        ]
  ];
  each = λ n z is. elim (changed_is s n f t z is) [
    | inl p ↦ subst IsSession (same_Some (f x) z (ap (option_map f) (sym at) ∙ p.1)) ready
    | inr p ↦ tied.each n z p.1
  ];
}

-- a session that no line holds, before and after
pub tied_away : (s : ℕ) (f : SessionRecord → SessionRecord) (t : TableRecord) (x : SessionRecord) → IsTied t
    → session_of s t ≡ Some x → x.holder ≡ None → (f x).holder ≡ None → IsSession (f x) → IsTied (changed s f t)
tied_away s f t x tied at away left ready = record {
  bound = λ v c n is.
      let old = tied.bound v c n is in
      let other : n ≡ s → ⊥ = (λ e.
      let here : IsSomeAnd (Some x) (λ z. (z.state ≡ Live) × (z.holder ≡ Some v)) =
      subst (λ (o : Option SessionRecord). IsSomeAnd o (λ z. (z.state ≡ Live) × (z.holder ≡ Some v)))
      (ap (λ k. session_of k t) e ∙ at) old in
      let z : ◌≡◌ {A = Option ℕ} None (Some v) = sym away ∙ here.1 in
      cc) in
      subst (λ (o : Option SessionRecord). IsSomeAnd o (λ z. (z.state ≡ Live) × (z.holder ≡ Some v))) (sym (changed_else s n f t other)) old;
  holds = λ n v y is holder'. elim (changed_is s n f t y is) [
    | inl p ↦ absurd (
        let same : f x ≡ y = same_Some (f x) y (ap (option_map f) (sym at) ∙ p.1) in
        let z : ◌≡◌ {A = Option ℕ} None (Some v) = sym left ∙ (ap (λ (u : SessionRecord). u.holder) same ∙ holder') in
        cc)
    | inr p ↦ tied.holds n v y p.1 holder'
  ];
  each = λ n z is. elim (changed_is s n f t z is) [
    | inl p ↦ subst IsSession (same_Some (f x) z (ap (option_map f) (sym at) ∙ p.1)) ready
    | inr p ↦ tied.each n z p.1
  ];
}
