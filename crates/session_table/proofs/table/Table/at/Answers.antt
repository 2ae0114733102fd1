use Rattle.std.proofs.Common.{◌≡◌, ℕ, Option, sym, subst, ap, ◌∙◌}
use Rattle.session_table.specs.Tables.{IsFirst, TableRecord, number_at}
use Rattle.session_table.proofs.FirstLemmas.{first_at_address}
use Rattle.session_table.proofs.PresentLemmas.{rises_present}
use Rattle.session_table.specs.contracts.table.Table.{the_view}
use Rattle.session_table.proofs.table.Table.at.Goals as goal

pub returns-clause-first : goal.returns-clause-first
returns-clause-first c =
    let a = c.args.address.now in
    let P : Option ℕ → Type 0 = λ answer. IsFirst (λ x. x.address ≡ a) c.args.self.now answer in
    let Q : TableRecord → Type 0 = λ t. IsFirst (λ x. x.address ≡ a) t (number_at a t.sessions) in
    let inside = c.self.inside in
    let rises = rises_present 0 inside.made inside.slots.entries c.self.invariant.chained.climbs in
    let first = subst Q c.self.view_is (first_at_address a (the_view inside) rises) in
    subst P (sym (c.find_at.ensures ∙ ap (λ (t : TableRecord). number_at a t.sessions) c.self.view_is)) first
