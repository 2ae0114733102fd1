use Rattle.std.proofs.Common.{◌≡◌, length, rules, refl, sym, subst, ap, ◌∙◌}
use Rattle.conn_flow.specs.Duties.{Site}
use Rattle.conn_serve.specs.Connections.{site_of}
use Rattle.conn_serve.specs.Serving.{IsAt}
use Rattle.flow_laws.specs.Steps.{start}
use Rattle.conn_serve.proofs.Growing.{finished_after}
use Rattle.conn_serve.proofs.Leaving.{at_start, concluded_after, named_by, no_room, unnamed}
use Rattle.conn_serve.proofs.service.begin.Goals as goal

pub returns-in-Failed-clause-ended : goal.returns-in-Failed-clause-ended
returns-in-Failed-clause-ended g c = λ o v site is.
    unnamed o c.args.opened v _ _ _ _ _ _ _ _ _ is c.in-Failed.ensures.drawn c.in-Failed.ensures.kept (c.in-Failed.ensures.cause refl)

pub converse-requires-clause-stands : goal.converse-requires-clause-stands
converse-requires-clause-stands g c =
    let o : Site = site_of (g.D.Desk.line c.args.pass.now) (g.D.Desk.opening c.args.desk.now).head.domain.domain c.args.accounts.now in
    record {
      site = o;
      place = start o c.fill.new.into c.args.opened;
      line_is = refl;
      accounts_are = refl;
      at = at_start _ _ _ c.fill.new.into c.args.opened c.in-Ok.conn.flow c.in-Ok.conn.ears c.in-Ok.conn.left _ _ (ap
          (λ x. x.flow) c.in-Ok.conn-is ∙ c.in-Ok.ensures.flow) c.number.ensures
          (ap (λ d. d.domain) c.behind-desk.view_is ∙ ap (λ d. d.domain) c.domain.ensures) (ap (λ x. x.ears) c.in-Ok.conn-is ∙ c.in-Ok.ensures.ears)
          (ap (λ x. x.left) c.in-Ok.conn-is ∙ c.in-Ok.ensures.left);
    }

pub returns-in-Ok-clause-ended : goal.returns-in-Ok-clause-ended
returns-in-Ok-clause-ended g c = λ o v site is.
    let long : length c.fill.new.into ≡ 16 = search rules in
    concluded_after o _ _ _ _ _ c.converse.result
    (named_by o c.args.opened v c.fill.new.into _ _ _ _ _ _ _ _ _ is long c.in-Full.ensures.drawn c.in-Full.ensures.kept)
    (c.converse.ensures.ended o (start o c.fill.new.into c.args.opened) (ap (λ (x : Site). x.line) site) (ap (λ (x : Site). x.accounts) site)
    (subst (λ (x : Site). IsAt x (start x c.fill.new.into c.args.opened) c.in-Ok.conn.flow c.in-Ok.conn.ears c.in-Ok.conn.left) (sym site)
    (at_start _ _ _ c.fill.new.into c.args.opened c.in-Ok.conn.flow c.in-Ok.conn.ears c.in-Ok.conn.left _ _ (ap
    (λ x. x.flow) c.in-Ok.conn-is ∙ c.in-Ok.ensures.flow) c.number.ensures
    (ap (λ d. d.domain) c.behind-desk.view_is ∙ ap (λ d. d.domain) c.domain.ensures) (ap (λ x. x.ears) c.in-Ok.conn-is ∙ c.in-Ok.ensures.ears) (ap
    (λ x. x.left) c.in-Ok.conn-is ∙ c.in-Ok.ensures.left))))

pub returns-in-Err-clause-ended : goal.returns-in-Err-clause-ended
returns-in-Err-clause-ended g c = λ o v site is.
    let long : length c.fill.new.into ≡ 16 = search rules in
    finished_after
    (named_by o c.args.opened v c.fill.new.into _ _ _ _ _ _ _ _ _ is long c.in-Full.ensures.drawn c.in-Full.ensures.kept)
    (no_room o _ c.fill.new.into c.args.opened)
