use Rattle.std.proofs.Common.{rules, [], ap, ◌∙◌, refl}
use Rattle.turn_lock.specs.Views.{has_value}
use Rattle.turn_lock.proofs.Keeps.{splits, joins, looks}
use Rattle.turn_lock.proofs.lock.Turnstile.meet.Goals as goal

pub split_seat-copy-requires : goal.split_seat-copy-requires
split_seat-copy-requires g c = (
  search rules,
  search rules,
  splits g.T.Storied.story g.T.Storied.line g.T.Storied.root _ _ _ _ c.args.from.now.seat.me.0.claims [] _
      (ap (λ m. m.0.root) c.requires.from.1) refl (ap (λ m. m.0.stage) c.requires.from.1),
)

pub join_seat-requires : goal.join_seat-requires
join_seat-requires g c =
    let copy = c.split_seat-copy.ensures.4 in (
      search rules,
      search rules,
      ap (λ m. m.1) copy,
      search rules,
      joins g.T.Storied.story g.T.Storied.line g.T.Storied.root _ _ _ _ _ _ _
          (ap (λ m. m.0.root) c.requires.into.1) (ap (λ m. m.0.stage) c.requires.into.1) (ap (λ m. m.0.stage) copy),
    )

pub load-requires : goal.load-requires
load-requires g c =
    let free = ap (λ m. has_value m.0.stage) c.join_seat.ensures.2 ∙ ap (λ m. has_value m.0.stage) c.requires.into.1 in (
      search rules,
      search rules,
      looks g.T.Storied.story g.T.Storied.line g.T.Storied.root _ _ _ _ _ _ (ap (λ m. m.0.root) c.join_seat.ensures.2
          ∙ ap (λ m. m.0.root) c.requires.into.1) free,
    )

pub returns-clause-from : goal.returns-clause-from
returns-clause-from g c =
    let same = c.split_seat-copy.ensures in
    λ i. record { seat = record { marker = c.args.from.now.seat.marker; table_id = same.0 i; id = same.1 i; me = same.2 i }; number = c.args.from.now.number }
