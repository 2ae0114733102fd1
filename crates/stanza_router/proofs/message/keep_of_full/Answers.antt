use Rattle.std.proofs.Common.{Some, sym, ap, ◌∙◌}
use Rattle.std.specs.List.{list_any}
use Rattle.jid_core.specs.Addresses.{same_part}
use Rattle.stanza_model.specs.declared.here.Here.{Here}
use Rattle.stanza_router.specs.Messages.{else_of_user}
use Rattle.stanza_router.proofs.ReceiverLemmas.{kept_some, kept_none}
use Rattle.stanza_router.proofs.message.keep_of_full.Goals as goal

pub returns-then-is_at_address : goal.returns-then-is_at_address
returns-then-is_at_address c =
    let has = λ (h : Here). same_part h.address.resource (Some c.args.resource.now) in
    c.keep_at_address.ensures
    ∙ kept_some c.args.form c.args.sessions.now.items has c.args.sessions.now.items
    (sym (ap (list_any has) c.as_slice.ensures.value) ∙ (sym c.is_at_address.ensures ∙ c.if-is_at_address.true))

pub returns-else-is_at_address : goal.returns-else-is_at_address
returns-else-is_at_address c =
    let has = λ (h : Here). same_part h.address.resource (Some c.args.resource.now) in
    c.keep_of_nobody.ensures
    ∙ sym (ap (else_of_user c.args.form c.args.sessions.now.items) (kept_none has c.args.sessions.now.items
    (sym (ap (list_any has) c.as_slice.ensures.value) ∙ (sym c.is_at_address.ensures ∙ c.if-is_at_address.false))))
