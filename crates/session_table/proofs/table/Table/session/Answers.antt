use Rattle.std.proofs.Common.{sym, ap, subst, ◌∙◌}
use Rattle.session_table.specs.Tables.{Rises, TableRecord, session_of}
use Rattle.session_table.proofs.PresentLemmas.{lookup_present, rises_present}
use Rattle.session_table.proofs.table.Table.session.Goals as goal

pub returns-clause-session : goal.returns-clause-session
returns-clause-session c =
    let inside = c.self.inside in
    c.session_at.ensures
    ∙ (sym (lookup_present c.args.s 0 inside.made inside.slots.entries c.self.invariant.chained.climbs)
    ∙ ap (λ (t : TableRecord). session_of c.args.s t) c.self.view_is)

pub returns-clause-rises : goal.returns-clause-rises
returns-clause-rises c =
    let inside = c.self.inside in
    subst (λ (t : TableRecord). Rises 0 t.sessions t.made) c.self.view_is
    (rises_present 0 inside.made inside.slots.entries c.self.invariant.chained.climbs)
