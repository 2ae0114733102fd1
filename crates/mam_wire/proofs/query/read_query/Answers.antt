use Rattle.std.proofs.Common.{◌∙◌, sym, ap}
use Rattle.mam_wire.specs.Asks.{ask_of}
use Rattle.mam_wire.specs.Filters.{filter_of}
use Rattle.mam_wire.specs.Queries.{queryid_of}
use Rattle.mam_wire.proofs.QueryLemmas.{joined_ok}
use Rattle.mam_wire.proofs.query.read_query.Goals as goal

pub returns-clause-ok : goal.returns-clause-ok
returns-clause-ok c =
    joined_ok _ _ _ _ _ _ (ap filter_of (sym c.form_in.ensures) ∙ c.in_ok-filter.ensures.ok)
    (ap queryid_of (sym c.attr.ensures) ∙ c.in_ok-queryid.ensures.ok) (ap ask_of (sym c.set_in.ensures) ∙ c.in_ok-ask.ensures.ok)
