use Rattle.std.proofs.Common.{rules, arith, ◌≡◌, ◌++◌, ◌∷◌, [], Some, false, ◌<◌, ◌-◌, ◌+◌, ℕ, ap, ◌∙◌, sym, refl, map, append_assoc, take, drop}
use Rattle.std.proofs.lemmas.List.{map-append}
use Rattle.std.proofs.lemmas.List.Elements.{All-push}
use Rattle.turn_lock.specs.Views.{resting}
use Rattle.turn_lock.specs.Histories.{counted}
use Rattle.turn_lock.specs.Passes.{number_of, seen, refused, drawn, Stands}
use Rattle.turn_lock.specs.declared.rule.Stage.TheVariants.{Idle}
use Rattle.turn_lock.specs.declared.tokens.Pass.{Pass}
use Rattle.turn_lock.proofs.Keeps.{starts, splits}
use Rattle.turn_lock.proofs.Stands.{take_drop_one, drop-fresh, take-fresh, counted-next, stands_from}
use Rattle.turn_lock.proofs.lock.Turnstile.start.Goals as goal

pub new-requires : goal.new-requires
new-requires g c =
    let slots : c.push.new.self.items ≡ Some c.args.value ∷ [] = search rules in
    let first : c.of.result.value ≡ c.args.value = search rules in
    rw (slots, first) (starts g.T.Storied.story g.T.Storied.line g.T.Storied.root c.args.value c.args.passes c.requires.empty (search rules))

pub split_seat-seat-requires : goal.split_seat-seat-requires
split_seat-seat-requires g c = (
  search rules,
  search rules,
  splits g.T.Storied.story g.T.Storied.line g.T.Storied.root _ _ _ _ _ _ _ (ap (λ m. m.0.root) c.loop-number.invariant.dealer)
      (take_drop_one _) (ap (λ m. m.0.stage) c.loop-number.invariant.dealer),
)

pub loop-number-preserved : goal.loop-number-preserved
loop-number-preserved g c =
    let inv = c.loop-number.invariant in
    let i : ℕ = c.loop-number.number in
    let k : ℕ = c.args.passes in
    let less : i < k = omega arith in
    let cut = c.split_seat-seat.ensures in
    let q = g.T.Storied.root c.args.value in
    let rest = counted (i + 1) (k - (i + 1)) in
    let dealt : Pass g.row.T.Denot g.row.T-Entry.Denot g.row.T-Root.Denot = record { seat = c.split_seat-seat.result; number = i } in
    let items : c.push-in-loop-number.new.self.items ≡ c.loop-number.all.items ++ dealt ∷ [] = search rules in
    let me = cut.4 ∙ (ap (λ m. (resting m.0.root false m.0.drawn (take 1 m.0.claims) m.0.seen, [])) inv.dealer
    ∙ ap (λ l. (resting (Some q) false 0 l [], [])) (take-fresh i k less)) in
    record {
      within = omega arith;
      table = cut.0 ∙ inv.table;
      dealer = cut.2 ∙ (ap (λ m. (record m.0 { claims = drop 1 m.0.claims }, m.1)) inv.dealer
          ∙ ap (λ l. (resting (Some q) false 0 l [], [])) (drop-fresh i k less));
      count = let before = inv.count in search rules;
      numbers = ap (λ l. map number_of l ++ rest) items
          ∙ (ap (λ l. l ++ rest) (map-append number_of c.loop-number.all.items (dealt ∷ []))
          ∙ (append_assoc (map number_of c.loop-number.all.items) (i ∷ []) rest
          ∙ (ap (λ l. map number_of c.loop-number.all.items ++ l) (sym (counted-next i k less)) ∙ inv.numbers)));
      idle = rw items (All-push (λ p. (p.seat.table_id ≡ c.in-Ok.table.shared.table_id) × Stands g.T.Storied.line q Idle [] p) c.loop-number.all.items dealt
          inv.idle
          (cut.3 ∙ inv.table, stands_from _ g.T.Storied.line q i _ _ _ _ _ _ _ me refl));
      fresh = rw items (All-push (λ p. (seen p ≡ []) × (drawn p ≡ 0) × (refused p ≡ false)) c.loop-number.all.items dealt inv.fresh
          (ap (λ m. m.0.seen) me, ap (λ m. m.0.drawn) me, ap (λ m. m.0.refused) me));
    }
