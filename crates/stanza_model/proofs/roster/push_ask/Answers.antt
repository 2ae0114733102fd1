use Rattle.std.proofs.Common.{rules, ◌≡◌, ◌++◌, ◌∷◌, [], ◌∙◌, ap, codes, sym}
use Rattle.stanza_model.specs.Errors.{plain_attr}
use Rattle.stanza_model.specs.Rosters.{ask_attr}
use Rattle.stanza_model.proofs.roster.push_ask.Goals as goal

pub returns-in_ok-push_attr : goal.returns-in_ok-push_attr
returns-in_ok-push_attr c =
    let told : c.push_attr.new.attrs.items ≡ c.args.attrs.now.items ++ plain_attr (codes "ask") c.in_ok-value.value ∷ [] = search rules in
    let value : c.in_ok-value.value ≡ codes "subscribe" = search rules in
    told
    ∙ ap (λ v. c.args.attrs.now.items ++ plain_attr (codes "ask") v ∷ []) value
    ∙ ap (λ b. c.args.attrs.now.items ++ ask_attr b) (sym c.if-asked.true)
