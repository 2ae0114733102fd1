use Rattle.std.proofs.Common.{◌≡◌, ℕ, List, ◌∷◌, ◌++◌, [], map, reverse, ap, sym, ◌∙◌}
use Rattle.std.specs.Prelude.{Option, Some}
use Rattle.std.specs.Option.{option_to_list}
use Rattle.stream_frames.specs.declared.built.OpenElement.{OpenElement}
use Rattle.stream_frames.specs.declared.built.Parent.{Parent}
use Rattle.stream_grammar.specs.declared.item.Item.TheVariants as item
use Rattle.stream_frames.specs.Builds.{opened, building, open_element, open_parent}
use Rattle.stream_grammar.specs.machine.Building.{Building, Opened, last_closed}
use Rattle.stream_frames.proofs.BuildLemmas.{close_some, close_none, last_parent, popped_last, popped_none}
use Rattle.stream_frames.proofs.built.Builder.close.Goals as goal

pub returns-in-Some-pop : goal.returns-in-Some-pop
returns-in-Some-pop c =
    let x : OpenElement = c.in-Some.innermost in
    let p : Parent = c.in-Some-pop.parent in
    let rest : List Parent = c.pop-2.new.self.items in
    let inner : c.args.self.now.innermost ≡ Some x = sym c.take_words-words.ensures.parts.0 ∙ (sym c.take.ensures.value ∙ c.in-Some.is) in
    let outer : c.args.self.now.others.items ≡ rest ++ p ∷ [] = ap (λ (v : _). v.items) (sym c.take_words-words.ensures.parts.1)
    ∙ (c.pop-2.ensures.items ∙ ap (λ (o : Option Parent). rest ++ option_to_list o) c.in-Some-pop.is) in
    ap (λ (b : Building). record b { layers = c.pop.new.self.items; opened = open_element c.with_closed.result ∷ reverse (map open_parent rest) })
    c.take_words-words.ensures.kept
    ∙ close_some (building c.args.self.now) c.pop.new.self.items (open_element x) (open_parent p) (open_element c.with_closed.result)
    c.closed_element-element.result (reverse (map open_parent rest))
    (ap (λ (o : Option OpenElement). opened o c.args.self.now.others.items) inner
    ∙ ap (λ (os : List Opened). open_element x ∷ os) (ap (λ (ps : List Parent). reverse (map open_parent ps)) outer ∙ last_parent rest p))
    (c.closed_element-element.ensures ∙ ap (λ (w : List ℕ). last_closed w (open_element x)) c.take_words-words.ensures.words)
    (popped_last c.pop.result c.args.self.now.layers.items c.pop.new.self.items _ _ _ c.pop.new.self.ok.0
    (ap (λ (v : _). v.items) (sym c.take_words-words.ensures.parts.2) ∙ c.pop.ensures.items) c.pop.ensures.cases)
    c.with_closed.ensures

pub returns-in-None : goal.returns-in-None
returns-in-None c =
    let x : OpenElement = c.in-Some.innermost in
    let inner : c.args.self.now.innermost ≡ Some x = sym c.take_words-words.ensures.parts.0 ∙ (sym c.take.ensures.value ∙ c.in-Some.is) in
    let outer : c.args.self.now.others.items ≡ [] = ap (λ (v : _). v.items) (sym c.take_words-words.ensures.parts.1)
    ∙ popped_none c.pop-2.result _ c.pop-2.new.self.items _ _ _ c.in-None.is c.pop-2.new.self.ok.0 c.pop-2.ensures.items c.pop-2.ensures.cases in
    ap (λ (o : Option OpenElement). record (building c.take_words-words.new.self)
    { layers = c.pop.new.self.items; opened = opened o c.pop-2.new.self.items; item = Some (item.Top c.closed_element-element.result) })
    c.take.ensures.after
    ∙ (ap (λ (b : Building). record b { layers = c.pop.new.self.items; opened = []; item = Some (item.Top c.closed_element-element.result) })
    c.take_words-words.ensures.kept
    ∙ close_none (building c.args.self.now) c.pop.new.self.items (open_element x) c.closed_element-element.result
    (ap (λ (o : Option OpenElement). opened o c.args.self.now.others.items) inner
    ∙ ap (λ (ps : List Parent). open_element x ∷ reverse (map open_parent ps)) outer)
    (c.closed_element-element.ensures ∙ ap (λ (w : List ℕ). last_closed w (open_element x)) c.take_words-words.ensures.words)
    (popped_last c.pop.result c.args.self.now.layers.items c.pop.new.self.items _ _ _ c.pop.new.self.ok.0
    (ap (λ (v : _). v.items) (sym c.take_words-words.ensures.parts.2) ∙ c.pop.ensures.items) c.pop.ensures.cases))
