-- A message without an id stays as it is.
use Rattle.std.proofs.Common.{◌≡◌, List, [], ◌∷◌, Bool, true, false, not, ◌&&◌, refl, ap, codes, Option, Some, is_some}
use Rattle.std.proofs.Common.{if◌then◌else◌}
use Rattle.std.specs.List.{filter}
use Rattle.jid_core.specs.Addresses.{Address}
use Rattle.stanza_tree.specs.Attributes.{attr_of}
use Rattle.stanza_tree.specs.Children.{child_of, child_or}
use Rattle.stanza_tree.specs.declared.node.Element.{Element}
use Rattle.stanza_tree.specs.declared.node.Node.{Node}
use Rattle.stanza_tree.specs.declared.node.Node.TheOpen.{Node-F, Child, Words}
use Rattle.stanza_tree.specs.declared.node.Node.TheViews.{out-Node}
use Rattle.stanza_model.specs.Ids.{has_id, id_space, is_stanza_id, may_stay, may_stay_in, names, without_ids}

-- a node that isn't found may stay, and so the later ones are looked at
passed : (owner : Address) (v : Node-F Node Element) (later : Option Element) → is_some (child_or id_space (codes "stanza-id") v later) ≡ false
    → (may_stay_in owner v ≡ true) × (is_some later ≡ false)
passed owner (Words w) later none = (refl, none)
passed owner (Child e) later none = by (is_stanza_id e) (names owner (attr_of (codes "by") e.attrs)) none where
  by : (b c : Bool) → is_some (if b then Some e else later) ≡ false → (not (b && c) ≡ true) × (is_some later ≡ false)
  by true c none = absurd (let z : true ≡ false = none in cc)
  by false c none = (refl, none)

all_stay : (owner : Address) (ns : List Node) → is_some (child_of id_space (codes "stanza-id") ns) ≡ false → filter (may_stay owner) ns ≡ ns
all_stay owner [] none = refl
all_stay owner (n ∷ ns) none =
    let p = passed owner (out-Node n) (child_of id_space (codes "stanza-id") ns) none in
    kept (may_stay owner n) p.0 (all_stay owner ns p.1) where
      kept : (b : Bool) → b ≡ true → filter (may_stay owner) ns ≡ ns → (if b then n ∷ filter (may_stay owner) ns else filter (may_stay owner) ns) ≡ n ∷ ns
      kept true is same = ap (λ (l : List Node). n ∷ l) same
      kept false is same = absurd (let z : false ≡ true = is in cc)

pub stays : (owner : Address) (e : Element) → has_id e ≡ false → without_ids owner e ≡ e
stays owner e none = ap (λ (l : List Node). record e { children = l }) (all_stay owner e.children none)
