-- What the gate answers, as the code finds it.
use Rattle.std.proofs.lemmas.Bool.{leb-false}
use Rattle.std.proofs.lemmas.Option.{same_Some}
use Rattle.house_world.specs.Wholes.{IsTied}
use Rattle.std.proofs.Common.{◌≡◌, ◌⊎◌, inl, inr, ℕ, ◌&&◌, nat_le, List, [], ◌∷◌, ◌++◌, Bool, true, false}
use Rattle.std.proofs.Common.{length, get_or, Some, None, refl, sym, ap, subst, ◌∙◌}
use Rattle.sm_resume.specs.declared.decision.Cause.TheVariants.{Flood}
use Rattle.session_table.specs.declared.line.Line as stage
use Rattle.session_table.specs.declared.line.Line.TheVariants.{Empty, Fresh, Logged, Bound, Over}
use Rattle.session_table.specs.Tables.{conn_of, line_of}
use Rattle.house_model.specs.declared.reply.Reply.TheVariants as reply
use Rattle.house_model.specs.Traffic.{KeptTraffic}
use Rattle.house_model.specs.States.{Line, Head, World, Kept}
use Rattle.house_model.specs.Effects.{At, Close}
use Rattle.house_model.specs.Gate as model
use Rattle.house_model.specs.Gate.{Verdict, does, left, flooded, ready, gate_at, is_full}
use Rattle.house_core.specs.declared.gate.Needs.{Needs}
use Rattle.house_core.specs.declared.gate.Pass.{Pass}
use Rattle.house_core.specs.declared.gate.Pass.TheVariants as code_pass
use Rattle.house_world.specs.declared.world.World as code
use Rattle.house_core.specs.Gates.{needs_of, looks, look_at, Found, HasRoom}
use Rattle.house_world.specs.Worlds.{Did, left_at, seen}

pub left_is : (k : Kept) (g : stage.Line) → left k g ≡ left_at k.world k.head.moment g
left_is k Empty = refl
left_is k (Fresh c) = refl
left_is k (Logged c u) = refl
left_is k (Bound c s) = refl
left_is k (Over c cause) = refl

abbrev pub floods : Kept → ℕ → stage.Line → Verdict
floods k w g = does (reply.Over (Flood 8)) (left_at k.world k.head.moment g ++ At w (Close (conn_of g) (Flood 8)) ∷ [])

floods_if : (fits full : Bool) (k : Kept) (w c : ℕ) (g : stage.Line) (p : Pass) (pass : model.Pass) → c ≡ conn_of g → looks fits full p ≡ None
    → ready fits (flooded full k w c g pass) ≡ model.Stop (floods k w g)
floods_if false full k w c g p pass conn none = absurd (cc)
floods_if true false k w c g p pass conn none = absurd (cc)
floods_if true true k w c g p pass conn none =
    (λ i. model.Stop (does (reply.Over (Flood 8)) (left_is k g i ++ At w (Close (conn i) (Flood 8)) ∷ [])))

gate_floods_at : (n : Needs) (k : Kept) (w : ℕ) (l : Line) (g : stage.Line) → look_at n g (is_full (needs_of n) l) ≡ None
    → gate_at (needs_of n) k w l g ≡ model.Stop (floods k w g)
gate_floods_at n k w l Empty none = absurd (cc)
gate_floods_at n k w l (Over c cause) none = absurd (cc)
gate_floods_at n k w l (Fresh c) none = floods_if n.fresh (is_full (needs_of n) l) k w c (Fresh c) code_pass.Waits model.Waits refl none
gate_floods_at n k w l (Logged c u) none =
    floods_if n.logged (is_full (needs_of n) l) k w c (Logged c u) (code_pass.Knows c u) (model.Knows c u) refl none
gate_floods_at n k w l (Bound c s) none =
    floods_if n.bound (is_full (needs_of n) l) k w c (Bound c s) (code_pass.Holds c s) (model.Holds c s) refl none

abbrev Floods : Needs → ℕ → code.World → code.World → Head → World KeptTraffic → Type 0
Floods n w a b head world = (v : Verdict)
    × (gate_at (needs_of n) (record { head = head; world = world }) w (world.lines w) (world.lines w).stage ≡ model.Stop v
    × (reply.Over (Flood 8) ≡ v.reply × (◌≡◌ {A = List ℕ} [] v.text × Did v.effects 0 a b)))

pub gate_floods : (n : Needs) (w moment : ℕ) (a b : code.World)
    → look_at n (line_of w a.table) (n.answers && nat_le 8 (length (get_or a.answers.items w []))) ≡ None
    → Did (left_at (seen a) moment (line_of w a.table) ++ At w (Close (conn_of (line_of w a.table)) (Flood 8)) ∷ []) 0 a b
    → (k : Kept) → k.world ≡ seen a → k.head.moment ≡ moment → Floods n w a b k.head k.world
gate_floods n w moment a b none did k world now =
    subst (Floods n w a b k.head) (sym world)
    (let j : Kept = record { head = k.head; world = seen a } in (
      floods j w (line_of w a.table),
      (
        gate_floods_at n j w (j.world.lines w) (line_of w a.table) none,
        (
          refl,
          (
            refl,
            subst (λ (m : ℕ). Did (left_at (seen a) m (line_of w a.table) ++ At w (Close (conn_of (line_of w a.table)) (Flood 8)) ∷ []) 0 a b) (sym now) did,
          ),
        ),
      ),
    ))

-- what was found
looks_some : (fits full : Bool) (pass p : Pass) → looks fits full pass ≡ Some p
    → (p ≡ code_pass.Stop reply.Unready) ⊎ ((full ≡ false) × (p ≡ pass))
looks_some false full pass p is = inl (sym (same_Some (code_pass.Stop reply.Unready) p is))
looks_some true true pass p is = absurd (cc)
looks_some true false pass p is = inr (refl, sym (same_Some pass p is))

has_room : (n : Needs) (a : code.World) (w : ℕ) → (n.answers && nat_le 8 (length (get_or a.answers.items w []))) ≡ false → HasRoom n a w
has_room n a w not_full adds =
    leb-false 8 (length (get_or a.answers.items w []))
    (sym (ap (λ b. b && nat_le 8 (length (get_or a.answers.items w []))) adds) ∙ not_full)

found_by : (n : Needs) (a : code.World) (w : ℕ) (g : stage.Line) (p : Pass) → IsTied a.table → line_of w a.table ≡ g
    → look_at n g (n.answers && nat_le 8 (length (get_or a.answers.items w []))) ≡ Some p → Found n p a w
found_by n a w Empty p tied at is = subst (λ q. Found n q a w) (same_Some (code_pass.Stop reply.Absent) p is) tt
found_by n a w (Over c cause) p tied at is = subst (λ q. Found n q a w) (same_Some (code_pass.Stop (reply.Over cause)) p is) tt
found_by n a w (Fresh c) p tied at is =
    elim (looks_some n.fresh (n.answers && nat_le 8 (length (get_or a.answers.items w []))) code_pass.Waits p is) [
      | inl q ↦ subst (λ r. Found n r a w) (sym q) tt
      | inr q ↦ subst (λ r. Found n r a w) (sym q.1) (c, at)
    ]
found_by n a w (Logged c u) p tied at is =
    elim (looks_some n.logged (n.answers && nat_le 8 (length (get_or a.answers.items w []))) (code_pass.Knows c u) p is) [
      | inl q ↦ subst (λ r. Found n r a w) (sym q) tt
      | inr q ↦ subst (λ r. Found n r a w) (sym q.1) (at, has_room n a w q.0)
    ]
found_by n a w (Bound c s) p tied at is =
    elim (looks_some n.bound (n.answers && nat_le 8 (length (get_or a.answers.items w []))) (code_pass.Holds c s) p is) [
      | inl q ↦ subst (λ r. Found n r a w) (sym q) tt
      | inr q ↦ subst (λ r. Found n r a w) (sym q.1) (at, (tied.bound w c s at, has_room n a w q.0))
    ]

pub found_is : (n : Needs) (a : code.World) (w : ℕ) (p : Pass) → IsTied a.table
    → look_at n (line_of w a.table) (n.answers && nat_le 8 (length (get_or a.answers.items w []))) ≡ Some p → Found n p a w
found_is n a w p tied is = found_by n a w (line_of w a.table) p tied refl is
