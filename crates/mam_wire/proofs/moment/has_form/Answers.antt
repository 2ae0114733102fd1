use Rattle.mam_wire.proofs.MomentLemmas.{form_unlike}
use Rattle.mam_wire.proofs.moment.has_form.Goals as goal

pub returns-then-form-text : goal.returns-then-form-text
returns-then-form-text c = form_unlike c.args.form.now c.args.text.now c.if-form-text.true
