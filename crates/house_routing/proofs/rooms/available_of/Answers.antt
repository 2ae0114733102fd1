use Rattle.std.proofs.Common.{◌≡◌, rules, ap, ◌∙◌}
use Rattle.std.specs.List.{filter}
use Rattle.std.proofs.lemmas.Fn.{filter_same}
use Rattle.stanza_model.specs.declared.here.Here.{Here}
use Rattle.house_routing.proofs.rooms.available_of.Goals as goal

pub returns : goal.returns
returns c =
    let kept : c.retain.new.self.items ≡ filter (λ (h : Here). h.available) c.in_ok-found.found.items =
    filter_same _ _ _ (λ x b f' k. search rules) _ _ c.retain.ensures.filtered in
    kept ∙ ap (filter (λ (h : Here). h.available)) c.in_ok-found.ensures
