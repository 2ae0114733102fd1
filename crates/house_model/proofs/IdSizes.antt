-- How long a message is with the id that an archive gave to it, and without those that a client wrote.
use Rattle.std.proofs.Common.{◌≡◌, ℕ, ◌+◌, ◌≤◌, List, [], ◌∷◌, ◌++◌, length, Some, None, Bool, true, false, codes, bytes_eq, refl, ap, arith}
use Rattle.std.proofs.Common.{if◌then◌else◌}
use Rattle.std.specs.Fmt.{decimal}
use Rattle.std.specs.List.{filter}
use Rattle.std.specs.Option.{option_map}
use Rattle.std.proofs.lemmas.Slice.Eq.{bytes_eq-Decides}
use Rattle.jid_core.specs.Addresses.{Address, address_text}
use Rattle.stanza_tree.specs.Spelling.{client_space, text, text_under, texts_under}
use Rattle.stanza_tree.specs.declared.node.Attr.{Attr}
use Rattle.stanza_tree.specs.declared.node.Element.{Element}
use Rattle.stanza_tree.proofs.Bounds.{length-value_text-le}
use Rattle.stanza_model.specs.Errors.{plain_attr}
use Rattle.stanza_model.specs.Ids.{id_space, may_stay, stanza_id, told_with_id, without_ids}
use Rattle.stanza_model.specs.Replies.{one_child}
use Rattle.stanza_model.specs.Stanzas.{stanza_as, stanza_of}
use Rattle.stanza_model.specs.declared.kinds.Kind.TheVariants as kind
use Rattle.stanza_model.specs.declared.stanza.Stanza.{Stanza}
use Rattle.house_model.specs.Fitting.{IsShortAddress}
use Rattle.house_model.proofs.PartSizes.{closed-more, content-le, filtered-le, texts-both}
use Rattle.house_model.proofs.ReplySizes.{closed-le, first-length, plain-attributes, plain-declared, under-le, under-parts}
use Rattle.house_model.proofs.RosterSizes.{number-le}

-- the name of a stanza's element
pub name-short : (e : Element) (st : Stanza) → stanza_of e ≡ Some st → length e.name.local ≤ 8
name-short e st is =
    by (bytes_eq e.name.space client_space) (bytes_eq e.name.local (codes "message")) (bytes_eq e.name.local (codes "presence"))
    (bytes_eq e.name.local (codes "iq")) refl refl refl is
  where
    by : (a m p q : Bool) → bytes_eq e.name.local (codes "message") ≡ m → bytes_eq e.name.local (codes "presence") ≡ p
        → bytes_eq e.name.local (codes "iq") ≡ q
        → option_map (λ k. stanza_as k e) (if a then (if m then Some kind.Message else if p then Some kind.Presence
        else if q then Some kind.Iq else None) else None) ≡ Some st
        → length e.name.local ≤ 8
    by true true p q message presence iq is = omega (arith, ap length ((bytes_eq-Decides e.name.local (codes "message")).0 message))
    by true false true q message presence iq is = omega (arith, ap length ((bytes_eq-Decides e.name.local (codes "presence")).0 presence))
    by true false false true message presence iq is = omega (arith, ap length ((bytes_eq-Decides e.name.local (codes "iq")).0 iq))
    by true false false false message presence iq is = absurd (let z : None ≡ Some st = is in cc)
    by false m p q message presence iq is = absurd (let z : None ≡ Some st = is in cc)

pub without-le : (owner : Address) (e : Element) → length (text (without_ids owner e)) ≤ length (text e)
without-le owner e =
    omega (
      arith,
      under-parts client_space e,
      under-parts client_space (without_ids owner e),
      closed-more e.name.local (texts_under e.name.space (filter (may_stay owner) e.children)) (texts_under e.name.space e.children)
          (filtered-le e.name.space (may_stay owner) e.children),
    )

id-le : (p : List ℕ) (owner : Address) (n : ℕ) → IsShortAddress owner → n ≤ 18446744073709551618
    → length (text_under p (stanza_id owner n)) ≤ 19000
id-le p owner n short few =
    let l : List Attr = plain_attr (codes "id") (decimal n) ∷ [] in
    omega (
      arith,
      short,
      number-le n few,
      under-le p id_space (codes "stanza-id") (plain_attr (codes "by") (address_text owner) ∷ l) [],
      plain-attributes (codes "by") (address_text owner) l,
      plain-attributes (codes "id") (decimal n) [],
      ap length (plain-declared (codes "by") (address_text owner) l),
      ap length (plain-declared (codes "id") (decimal n) []),
      length-value_text-le (address_text owner),
      length-value_text-le (decimal n),
    )

pub numbered-le : (owner : Address) (n : ℕ) (e : Element) → length e.name.local ≤ 8 → IsShortAddress owner → n ≤ 18446744073709551618
    → length (text (told_with_id owner n e)) ≤ length (text e) + 19100
numbered-le owner n e named short few =
    omega (
      arith,
      named,
      under-parts client_space e,
      under-parts client_space (told_with_id owner n e),
      content-le e.name.local (texts_under e.name.space e.children),
      closed-le e.name.local (texts_under e.name.space (filter (may_stay owner) e.children ++ one_child (stanza_id owner n))),
      texts-both e.name.space (filter (may_stay owner) e.children) (one_child (stanza_id owner n)),
      filtered-le e.name.space (may_stay owner) e.children,
      first-length e.name.space (stanza_id owner n) [],
      id-le e.name.space owner n short few,
    )
