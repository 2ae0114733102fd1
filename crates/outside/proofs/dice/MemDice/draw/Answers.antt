use Rattle.std.proofs.Common.{rules, arith, ◌≡◌, ◌+◌, ◌-◌, ◌≤◌, ℕ, List, length, take, drop, ap, sym, subst, ◌∙◌}
use Rattle.std.proofs.lemmas.List.{length-drop, drop-drop}
use Rattle.std.proofs.lemmas.Grind.{common_steps}
use Rattle.std.specs.Prelude.{vec_capacity, vec_len}
use Rattle.outside.specs.Draws.{DiceState, drew, pieces, total}
use Rattle.outside.specs.Tapes.{and_last, told_where}
use Rattle.outside.proofs.DrawLemmas.{drawn_more, total_and_last}
use Rattle.outside.proofs.dice.MemDice.draw.Goals as goal

pub invariant_of-self : goal.invariant_of-self
invariant_of-self c =
    let n = length c.args.into.now in
    let left = drop c.self.inside.at c.self.inside.bytes.items in
    let enough : n ≤ length left = subst (λ (v : DiceState). n ≤ length v.left) (sym c.self.view_is) c.requires.enough in (
      omega (arith, enough, length-drop c.self.inside.at c.self.inside.bytes.items, c.self.invariant.0),
      ap total c.push_reserved.ensures.items ∙ total_and_last c.self.inside.draws.items n ∙ ap (λ m. m + n) c.self.invariant.1,
    )

pub returns-clause-state : goal.returns-clause-state
returns-clause-state c =
    let n = length c.args.into.now in
    let bytes = c.self.inside.bytes.items in
    let at = c.self.inside.at in
    let tells = c.self.inside.tells in
    let draws = c.self.inside.draws.items in
    let copied = c.copy_from_slice.new.self in
    let enough : n ≤ length (drop at bytes) = subst (λ (v : DiceState). n ≤ length v.left) (sym c.self.view_is) c.requires.enough in
    let part : n ≤ length bytes - at = omega (arith, enough, length-drop at bytes) in
    let front : copied ≡ take n (drop at bytes) = grind (arith, common_steps, c.copy_from_slice.ensures) in
    let len : length copied ≡ n = search (rules, c.copy_from_slice.ensures) in
    let left : drop (at + n) bytes ≡ drop (length copied) (drop at bytes) = sym (drop-drop n at bytes) ∙ ap (λ k. drop k (drop at bytes)) (sym len) in
    let told : told_where (List ℕ) tells (pieces c.push_reserved.new.self.items (take (at + n) bytes))
    ≡ and_last (List ℕ) (told_where (List ℕ) tells (pieces draws (take at bytes))) copied =
    ap (λ ds. told_where (List ℕ) tells (pieces ds (take (at + n) bytes))) c.push_reserved.ensures.items
    ∙ drawn_more tells draws bytes at n c.self.invariant.0 c.self.invariant.1 part
    ∙ ap (λ x. and_last (List ℕ) (told_where (List ℕ) tells (pieces draws (take at bytes))) x) (sym front) in
    let room : vec_capacity c.push_reserved.new.self - vec_len c.push_reserved.new.self ≡ (vec_capacity c.self.inside.draws - vec_len c.self.inside.draws) - 1 =
    omega (arith, c.push_reserved.ensures.len, c.push_reserved.ensures.capacity) in
    (λ i. record { plan = c.call.ensures i; left = left i; drawn = told i; room = room i })
    ∙ ap (λ (v : DiceState). drew v copied) c.self.view_is
