-- Lines and sessions name each other, whatever one of them becomes.
use Rattle.std.proofs.Common.{◌≡◌, ◌⊎◌, inl, inr, ℕ, ◌+◌, ◌<◌, ◌≤◌, cond, Bool, length, Option, Some, refl, sym, ap, subst, ◌∙◌, arith}
use Rattle.std.specs.Prelude.{IsSomeAnd}
use Rattle.std.proofs.lemmas.Bool.{eq-eqb, ne_eqb}
use Rattle.std.proofs.lemmas.Bool.Decides.{eqb_tells}
use Rattle.std.proofs.lemmas.Option.{same_Some}
use Rattle.std.specs.Option.{option_map}
use Rattle.session_table.specs.declared.life.Life.TheVariants.{Live}
use Rattle.session_table.specs.declared.line.Line as stage
use Rattle.session_table.specs.declared.line.Line.TheVariants.{Empty, Bound}
use Rattle.session_table.specs.Sessions.{SessionRecord}
use Rattle.session_table.specs.Tables.{TableRecord, line_of, session_of, changed, with_line, with_session}
use Rattle.session_table.proofs.NumberLemmas.{lookup_changed}
use Rattle.house_world.specs.Wholes.{IsSession, IsHeldBy, IsFreeLine, IsTied, IsFew}
use Rattle.house_world.proofs.ReadLemmas.{place_set}

-- a stage that is no session's
abbrev pub IsUnbound : stage.Line → Type 0
IsUnbound l = (c s : ℕ) → l ≡ Bound c s → ⊥

pub line_free : (w : ℕ) (t : TableRecord) → IsTied t → IsUnbound (line_of w t) → IsFreeLine w t
line_free w t tied unbound = λ s x at holder. (let h = tied.holds s w x at holder in unbound h.1.0 s h.1.1)

-- a line without a session becomes another without one
pub tied_line : (w : ℕ) (l : stage.Line) (t : TableRecord) → IsTied t → w < length t.lines → IsFreeLine w t → IsUnbound l
    → IsTied (with_line w l t)
tied_line w l t tied low free unbound = record {
  bound = λ v c s is. elim (place_set t.lines w v l Empty low) [
    | inl p ↦ absurd (unbound c s (sym p.1 ∙ is))
    | inr p ↦ tied.bound v c s (sym p.1 ∙ is)
  ];
  holds = λ s v x at holder.
      let old = tied.holds s v x at holder in
      elim (place_set t.lines w v l Empty low) [
        | inl p ↦ absurd (free s x at (holder ∙ ap Some p.0))
        | inr p ↦ (old.0, (old.1.0, p.1 ∙ old.1.1))
      ];
  each = tied.each;
}

-- what the session of a number is, after one changed
pub changed_is : (s n : ℕ) (f : SessionRecord → SessionRecord) (t : TableRecord) (y : SessionRecord) → session_of n (changed s f t) ≡ Some y
    → ((n ≡ s) × (option_map f (session_of s t) ≡ Some y)) ⊎ ((n ≡ s → ⊥) × (session_of n t ≡ Some y))
changed_is s n f t y at = elim (eqb_tells s n) [
  | inl p ↦ inl (
    sym p.1,
    ap (λ (k : ℕ). option_map f (session_of k t)) p.1
        ∙ (sym (ap (λ (b : Bool). cond b (option_map f (session_of n t)) (session_of n t)) p.0)
        ∙ (sym (lookup_changed s n f t.sessions) ∙ at)),
  )
  | inr p ↦ inr (
    λ e. p.1 (sym e),
    sym (ap (λ (b : Bool). cond b (option_map f (session_of n t)) (session_of n t)) p.0)
        ∙ (sym (lookup_changed s n f t.sessions) ∙ at),
  )
]

pub changed_here : (s : ℕ) (f : SessionRecord → SessionRecord) (t : TableRecord) (x : SessionRecord) → session_of s t ≡ Some x
    → session_of s (changed s f t) ≡ Some (f x)
changed_here s f t x at =
    lookup_changed s s f t.sessions
    ∙ (ap (λ (b : Bool). cond b (option_map f (session_of s t)) (session_of s t)) (eq-eqb s s refl)
    ∙ ap (option_map f) at)

pub changed_else : (s n : ℕ) (f : SessionRecord → SessionRecord) (t : TableRecord) → (n ≡ s → ⊥)
    → session_of n (changed s f t) ≡ session_of n t
changed_else s n f t other =
    lookup_changed s n f t.sessions
    ∙ ap (λ (b : Bool). cond b (option_map f (session_of n t)) (session_of n t)) (ne_eqb s n (λ e. other (sym e)))

-- a session that is held as before
pub tied_with : (s : ℕ) (t : TableRecord) (x y : SessionRecord) → IsTied t → session_of s t ≡ Some x
    → y.state ≡ x.state → y.holder ≡ x.holder → IsSession y → IsTied (with_session s t y)
tied_with s t x y tied at state holder ready = record {
  bound = λ w c n is.
      let old = tied.bound w c n is in
      elim (eqb_tells n s) [
        | inl p ↦
            let kept : IsHeldBy w s t = subst (λ (k : ℕ). IsHeldBy w k t) p.1 old in
            let now : IsSomeAnd (Some x) (λ z. (z.state ≡ Live) × (z.holder ≡ Some w)) =
            subst (λ (o : Option SessionRecord). IsSomeAnd o (λ z. (z.state ≡ Live) × (z.holder ≡ Some w))) at kept in
            let new : IsSomeAnd (Some y) (λ z. (z.state ≡ Live) × (z.holder ≡ Some w)) = (state ∙ now.0, holder ∙ now.1) in
            subst (λ (o : Option SessionRecord). IsSomeAnd o (λ z. (z.state ≡ Live) × (z.holder ≡ Some w)))
            (sym (changed_here s (λ _. y) t x at) ∙ ap (λ k. session_of k (with_session s t y)) (sym p.1)) new
        | inr p ↦
            subst (λ (o : Option SessionRecord). IsSomeAnd o (λ z. (z.state ≡ Live) × (z.holder ≡ Some w)))
            (sym (changed_else s n (λ _. y) t p.1)) old
      ];
  holds = λ n w z is holds_it. elim (changed_is s n (λ _. y) t z is) [
    | inl p ↦
        let same : y ≡ z = same_Some y z (ap (option_map (λ _. y)) (sym at) ∙ p.1) in
        let old = tied.holds s w x at (sym holder ∙ (ap (λ (u : SessionRecord). u.holder) same ∙ holds_it)) in
        (ap (λ (u : SessionRecord). u.state) (sym same) ∙ (state ∙ old.0), (old.1.0, old.1.1 ∙ ap (Bound old.1.0) (sym p.0)))
    | inr p ↦ tied.holds n w z p.1 holds_it
  ];
  each = λ n z is. elim (changed_is s n (λ _. y) t z is) [
    | inl p ↦ subst IsSession (same_Some y z (ap (option_map (λ _. y)) (sym at) ∙ p.1)) ready
    | inr p ↦ tied.each n z p.1
  ];
}

-- numbers
pub few_changed : (s n m : ℕ) (f : SessionRecord → SessionRecord) (t : TableRecord) (x : SessionRecord) → IsFew n t → session_of s t ≡ Some x → n ≤ m
    → (f x).given_up + (f x).queue.given ≤ m → (f x).acted ≤ m → IsFew m (changed s f t)
few_changed s n m f t x few at less sent acted = record {
  opened = omega (arith, few.opened, less);
  made = omega (arith, few.made, less);
  sent = λ k z is. elim (changed_is s k f t z is) [
    | inl p ↦ subst (λ (u : SessionRecord). u.given_up + u.queue.given ≤ m) (same_Some (f x) z (ap (option_map f) (sym at) ∙ p.1)) sent
    | inr p ↦ (let old = few.sent k z p.1 in omega (arith, old, less))
  ];
  acted = λ k z is. elim (changed_is s k f t z is) [
    | inl p ↦ subst (λ (u : SessionRecord). u.acted ≤ m) (same_Some (f x) z (ap (option_map f) (sym at) ∙ p.1)) acted
    | inr p ↦ (let old = few.acted k z p.1 in omega (arith, old, less))
  ];
}

pub few_with : (s n m : ℕ) (t : TableRecord) (x y : SessionRecord) → IsFew n t → session_of s t ≡ Some x → n ≤ m
    → y.given_up + y.queue.given ≤ m → y.acted ≤ m → IsFew m (with_session s t y)
few_with s n m t x y few at less sent acted = few_changed s n m (λ _. y) t x few at less sent acted
