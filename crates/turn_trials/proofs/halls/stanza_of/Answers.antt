use Rattle.std.proofs.Common.{rules, ◌≡◌, ◌≤◌, ℕ, List, length, codes, Some, refl, sym, subst, arith}
use Rattle.stanza_tree.specs.Spelling.{text}
use Rattle.stanza_tree.specs.declared.node.Element.{Element}
use Rattle.stanza_model.specs.declared.stanza.Stanza.TheVariants.{Message}
use Rattle.stanza_model.specs.declared.kinds.MessageForm.TheVariants.{Headline}
use Rattle.house_model.specs.Histories.{StanzaFits}
use Rattle.hall.proofs.GreetingLemmas.{home-text, greeting-fits}
use Rattle.turn_trials.proofs.halls.stanza_of.Goals as goal

pub returns : goal.returns
returns c =
    let to : List ℕ = codes "bob@example.org/home" in
    let same = c.in_ok-element.ensures in
    let small : length (text c.in_ok-element.element) ≤ 196608 = grind (arith, c.length.ensures, c.if-length-gt-MOST_STANZA.false) in
    subst (λ (e : Element). StanzaFits (Message (Some c.in_ok-to.to) Headline e)) (sym same)
    (greeting-fits to c.in_ok-to.to home-text c.in_ok-to.ensures.ok (subst (λ (e : Element). length (text e) ≤ 196608) same small))
