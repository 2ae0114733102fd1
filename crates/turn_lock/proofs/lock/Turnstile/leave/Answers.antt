use Rattle.std.proofs.Common.{rules, ◌++◌, ◌∷◌, [], ap, ◌∙◌, sym, Some}
use Rattle.atomic_table.specs.Table.{rest}
use Rattle.turn_lock.specs.Views.{claim}
use Rattle.turn_lock.specs.Histories.{places}
use Rattle.turn_lock.proofs.Keeps.{passes_on}
use Rattle.turn_lock.proofs.Stands.{stands_from, passed}
use Rattle.turn_lock.proofs.lock.Turnstile.leave.Goals as goal

pub fetch_add-served-requires : goal.fetch_add-served-requires
fetch_add-served-requires g c =
    let works = c.requires.turn.1.1 in
    let put = c.exchange-slot.ensures.3 in
    let entry = c.requires.one in
    let number = c.args.pass.now.number in (
      search rules,
      search rules,
      passes_on g.T.Storied.story g.T.Storied.line g.T.Storied.root _ _ _ _ _ _ c.args.turn.value entry.0
          (claim number (places g.T.Storied.line number 0 c.args.pass.now.seat.me.0.seen)) _
          (ap (λ m. m.0.stage) put ∙ ap (λ m. m.0.stage) works)
          (ap (λ m. m.1) put ∙ ap (λ m. (0, Some c.args.turn.value) ∷ rest m.1) works)
          (ap (λ m. m.0.claims) put ∙ ap (λ m. m.0.claims) works)
          (entry.1 ∙ ap (λ m. m.0.seen ++ entry.0 ∷ []) (sym put))
          entry.2
          (ap (λ m. m.0.root) put ∙ ap (λ m. m.0.root) works)
          c.requires.root,
    )

pub returns-clause-idle : goal.returns-clause-idle
returns-clause-idle g c =
    let told = passed _ g.T.Storied.line _ c.args.pass.now.number g.T.Storied.story _ _ _ _ _ c.requires.turn.1.1
    c.exchange-slot.ensures.3 c.fetch_add-served.ensures.2 in
    (search rules, stands_from _ g.T.Storied.line _ c.args.pass.now.number _ _ _ _ _ _ _ told.0 told.1)

pub returns-clause-history : goal.returns-clause-history
returns-clause-history g c =
    let told = passed _ g.T.Storied.line _ c.args.pass.now.number g.T.Storied.story _ _ _ _ _ c.requires.turn.1.1
    c.exchange-slot.ensures.3 c.fetch_add-served.ensures.2 in
    ap (λ m. m.0.seen) told.0

pub returns-clause-told : goal.returns-clause-told
returns-clause-told g c =
    let told = passed _ g.T.Storied.line _ c.args.pass.now.number g.T.Storied.story _ _ _ _ _ c.requires.turn.1.1
    c.exchange-slot.ensures.3 c.fetch_add-served.ensures.2 in
    (c.args.turn.value, sym (ap (λ m. m.0.seen) told.0), c.requires.root)

pub returns-clause-mine : goal.returns-clause-mine
returns-clause-mine g c =
    let told = passed _ g.T.Storied.line _ c.args.pass.now.number g.T.Storied.story _ _ _ _ _ c.requires.turn.1.1
    c.exchange-slot.ensures.3 c.fetch_add-served.ensures.2 in
    ap (λ m. places g.T.Storied.line c.args.pass.now.number 0 m.0.seen) told.0 ∙ told.1

pub returns-clause-drawn : goal.returns-clause-drawn
returns-clause-drawn g c =
    let told = passed _ g.T.Storied.line _ c.args.pass.now.number g.T.Storied.story _ _ _ _ _ c.requires.turn.1.1
    c.exchange-slot.ensures.3 c.fetch_add-served.ensures.2 in
    ap (λ m. m.0.drawn) told.0

pub returns-clause-refused : goal.returns-clause-refused
returns-clause-refused g c =
    let told = passed _ g.T.Storied.line _ c.args.pass.now.number g.T.Storied.story _ _ _ _ _ c.requires.turn.1.1
    c.exchange-slot.ensures.3 c.fetch_add-served.ensures.2 in
    ap (λ m. m.0.refused) told.0
