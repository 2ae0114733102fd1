use Rattle.std.proofs.Common.{◌≡◌, length, rules, refl, sym, subst, ap, ◌∙◌}
use Rattle.conn_flow.specs.Duties.{Site}
use Rattle.conn_serve.specs.Serving.{IsAt}
use Rattle.flow_laws.specs.Steps.{start}
use Rattle.conn_serve.proofs.Growing.{finished_after}
use Rattle.conn_serve.proofs.Leaving.{at_start, named_by, no_room, unnamed}
use Rattle.many_links.proofs.begin.name.Goals as goal

pub returns-in-Failed-clause-named : goal.returns-in-Failed-clause-named
returns-in-Failed-clause-named g c = λ o accounts v tape turns moments faults ends site is.
    unnamed o c.args.opened v _ _ _ _ _ _ _ _ _ is c.in-Failed.ensures.drawn c.in-Failed.ensures.kept (c.in-Failed.ensures.cause refl)

pub returns-in-Ok-clause-named : goal.returns-in-Ok-clause-named
returns-in-Ok-clause-named g c = λ o accounts v tape turns moments faults ends site is.
    let long : length c.fill.new.into ≡ 16 = search rules in
    record {
      to = start o c.fill.new.into c.args.opened;
      at = subst (λ (x : Site). IsAt x (start x c.fill.new.into c.args.opened) c.in-Ok.conn.flow c.in-Ok.conn.ears c.in-Ok.conn.left) (sym site)
          (at_start _ _ _ c.fill.new.into c.args.opened c.in-Ok.conn.flow c.in-Ok.conn.ears c.in-Ok.conn.left _ _ c.in-Ok.ensures.flow c.number.ensures
          (ap (λ d. d.domain) c.behind-desk.view_is ∙ ap (λ d. d.domain) c.domain.ensures) c.in-Ok.ensures.ears c.in-Ok.ensures.left);
      grew = named_by o c.args.opened v c.fill.new.into _ _ _ _ _ _ _ _ _ is long c.in-Full.ensures.drawn c.in-Full.ensures.kept;
    }

pub returns-in-Err-clause-named : goal.returns-in-Err-clause-named
returns-in-Err-clause-named g c = λ o accounts v tape turns moments faults ends site is.
    let long : length c.fill.new.into ≡ 16 = search rules in
    finished_after
    (named_by o c.args.opened v c.fill.new.into _ _ _ _ _ _ _ _ _ is long c.in-Full.ensures.drawn c.in-Full.ensures.kept)
    (no_room o _ c.fill.new.into c.args.opened)
