-- What an element is, as a stanza, has that element or none.
use Rattle.std.proofs.Common.{◌≡◌, ℕ, List, Bool, true, false, Option, Some, None, cond, refl, subst, inl, inr}
use Rattle.std.specs.Prelude.{◌⊎◌}
use Rattle.std.specs.Option.{option_map}
use Rattle.stanza_tree.specs.declared.node.Element.{Element}
use Rattle.stanza_model.specs.Kinds.{message_form, presence_form, iq_form}
use Rattle.stanza_model.specs.Stanzas.{kind_of, type_of, id_of, address_in, is_unreadable, has_wrong_content, faulty}
use Rattle.stanza_model.specs.Stanzas.{unless_unreadable, presence_by, iq_by, stanza_as, stanza_of, element_in}
use Rattle.stanza_model.specs.declared.condition.Condition.TheVariants.{BadRequest, JidMalformed}
use Rattle.stanza_model.specs.declared.kinds.Kind.{Kind}
use Rattle.stanza_model.specs.declared.kinds.Kind.TheVariants as kind
use Rattle.stanza_model.specs.declared.kinds.PresenceForm.{PresenceForm}
use Rattle.stanza_model.specs.declared.kinds.IqForm.{IqForm}
use Rattle.stanza_model.specs.declared.stanza.Stanza.{Stanza}
use Rattle.stanza_model.specs.declared.stanza.Stanza.TheVariants as stanza

abbrev Keeps : Element → Stanza → Type 0
Keeps e st = (element_in st ≡ None) ⊎ (element_in st ≡ Some e)

either : (c : Bool) (e : Element) (a b : Stanza) → Keeps e a → Keeps e b → Keeps e (cond c a b)
either true e a b one other = one
either false e a b one other = other

unless : (k : Kind) (st : Stanza) (e : Element) → Keeps e st → Keeps e (unless_unreadable k st e)
unless k st e keeps = either (is_unreadable e) e (faulty k JidMalformed e) st (inl refl) keeps

presence-keeps : (form : Option PresenceForm) (e : Element) → Keeps e (presence_by form e)
presence-keeps None e = inl refl
presence-keeps (Some form) e = unless kind.Presence (stanza.Presence (address_in e) form e) e (inr refl)

iq-keeps : (id : Option (List ℕ)) (form : Option IqForm) (e : Element) → Keeps e (iq_by id form e)
iq-keeps None form e = inl refl
iq-keeps (Some id) None e = inl refl
iq-keeps (Some id) (Some form) e =
    either (has_wrong_content form e) e (faulty kind.Iq BadRequest e) (unless_unreadable kind.Iq (stanza.Iq (address_in e) id form e) e) (inl refl)
    (unless kind.Iq (stanza.Iq (address_in e) id form e) e (inr refl))

as-keeps : (k : Kind) (e : Element) → Keeps e (stanza_as k e)
as-keeps kind.Message e = unless kind.Message (stanza.Message (address_in e) (message_form (type_of e)) e) e (inr refl)
as-keeps kind.Presence e = presence-keeps (presence_form (type_of e)) e
as-keeps kind.Iq e = iq-keeps (id_of e) (iq_form (type_of e)) e

by-kind : (k : Option Kind) (e : Element) (st : Stanza) → option_map (λ k. stanza_as k e) k ≡ Some st → Keeps e st
by-kind None e st h = absurd (cc)
by-kind (Some k) e st h = subst (λ x. Keeps e x) (let same : stanza_as k e ≡ st = cc in same) (as-keeps k e)

-- the element of a stanza, where it has one, is the one that it was read of
pub stanza_of-element : (e : Element) (st : Stanza) (x : Element) → stanza_of e ≡ Some st → element_in st ≡ Some x → e ≡ x
stanza_of-element e st x h has = elim (by-kind (kind_of e) e st h) [
  | inl none ↦ absurd (cc)
  | inr some ↦ cc
]
