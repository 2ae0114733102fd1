use Rattle.std.proofs.Common.{refl}
use Rattle.conn_flow.specs.Duties.{Duty, Id}
use Rattle.conn_flow.specs.Following.{opening}
use Rattle.std.specs.Prelude.{[], ◌∷◌}
use Rattle.flow_laws.specs.Standing.{duty}
use Rattle.flow_laws.specs.Steps.{start}
use Rattle.flow_laws.proofs.laws.a_flow_begins_as_a_connection_opens.Goals as goal

pub returns-clause-through : goal.returns-clause-through
returns-clause-through c = λ o t r dice long.
    let told : Duty = record (opening o t) { due = Id ∷ [] } in
    (told, (told, (refl, refl), refl), (duty o (start o dice t), (long, refl), refl))

pub returns-clause-served : goal.returns-clause-served
returns-clause-served c = λ o t dice.
    record {
      told = tt;
      loaded = tt;
      event_fits = tt;
      purpose_fits = tt;
      line = refl;
      domain = refl;
      limits_are = refl;
      more = refl;
      read = record { none = refl; read = record { at = refl; ready = refl; goes = refl } };
      all = tt;
      timed = tt;
    }
