use Rattle.std.proofs.Common.{rules, ◌≡◌, ◌<◌, ◌≤◌, length, true, Some, sym, subst, arith}
use Rattle.stanza_tree.specs.Spelling.{text}
use Rattle.stanza_tree.specs.declared.node.Element.{Element}
use Rattle.stanza_model.specs.declared.stanza.Stanza.TheVariants.{Message}
use Rattle.stanza_model.specs.declared.kinds.MessageForm.TheVariants.{Headline}
use Rattle.house_model.specs.Histories.{StanzaFits}
use Rattle.replay_script.specs.Characters.{is_token, is_xml}
use Rattle.replay_script.proofs.NoticeLemmas.{notice_fits}
use Rattle.replay_script.proofs.notice.read_notice.Goals as goal

pub returns-clause-fits : goal.returns-clause-fits
returns-clause-fits c =
    let same = c.in_ok-element.ensures in
    let token : is_token c.args.address.now ≡ true = grind (arith, c.is_token.ensures, c.if-not-is_token.false) in
    let xml : is_xml c.args.words.now ≡ true = grind (arith, c.is_xml.ensures, c.if-not-is_xml.false) in
    let some : 0 < length c.args.words.now = grind (arith, c.is_empty.ensures, c.if-is_empty.false) in
    let small : length (text c.in_ok-element.element) ≤ 196608 = c.is_too_long.ensures.short c.if-is_too_long.false in
    search (
      rules,
      subst (λ (e : Element). StanzaFits (Message (Some c.in_ok-to.to) Headline e)) (sym same)
          (notice_fits c.args.address.now c.args.words.now c.in_ok-to.to token xml some c.in_ok-to.ensures.ok
          (subst (λ (e : Element). length (text e) ≤ 196608) same small)),
    )
