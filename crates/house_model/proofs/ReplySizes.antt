-- How long a reply is, by its address, its id, its type and its content.
use Rattle.std.proofs.Common.{◌≡◌, ℕ, ◌+◌, ◌*◌, ◌≤◌, List, [], ◌∷◌, ◌++◌, length, Option, Some, None, Bool, true, false}
use Rattle.std.proofs.Common.{codes, bytes_eq, refl, ap, ◌∙◌, arith, length-append, if◌then◌else◌}
use Rattle.std.specs.Prelude.{IfSome}
use Rattle.std.specs.Option.{option_map}
use Rattle.std.proofs.lemmas.Grind.{common_steps}
use Rattle.stanza_tree.specs.Spelling.{value_text, assigned, needs_prefix, unprefixed, declarations, attributes, named}
use Rattle.stanza_tree.specs.Spelling.{opened, closed, client_space, texts_under, text_under, text}
use Rattle.stanza_tree.specs.declared.node.Attr.{Attr}
use Rattle.stanza_tree.specs.declared.node.Element.{Element}
use Rattle.stanza_tree.specs.declared.node.Name.{Name}
use Rattle.stanza_tree.specs.declared.node.Node.{Node}
use Rattle.stanza_tree.specs.declared.node.Node.TheOpen.{Child}
use Rattle.stanza_tree.specs.declared.node.Node.TheViews.{roll-Node, out-roll-Node}
use Rattle.stanza_tree.proofs.Bounds.{length-value_text-le}
use Rattle.stanza_tree.proofs.SpellingLemmas.{text_under-parts, texts-child}
use Rattle.jid_core.specs.Addresses.{Address, address_text}
use Rattle.stanza_model.specs.Conditions.{condition_name, error_type}
use Rattle.stanza_model.specs.Errors.{condition_space, plain_attr, attr_if, element_of, condition_element, error_child, reply_attrs}
use Rattle.stanza_model.specs.Kinds.{kind_name}
use Rattle.stanza_model.specs.Replies.{reply, one_child, result_of, error_of}
use Rattle.stanza_model.specs.Stanzas.{kind_in, to_in, id_in}
use Rattle.stanza_model.specs.declared.condition.Condition.{Condition}
use Rattle.stanza_model.specs.declared.condition.Condition.TheVariants.{BadRequest, Conflict, FeatureNotImplemented, Forbidden, ItemNotFound}
use Rattle.stanza_model.specs.declared.condition.Condition.TheVariants.{JidMalformed, NotAcceptable, NotAllowed, NotAuthorized}
use Rattle.stanza_model.specs.declared.condition.Condition.TheVariants.{RegistrationRequired, RemoteServerNotFound, ResourceConstraint}
use Rattle.stanza_model.specs.declared.condition.Condition.TheVariants.{ServiceUnavailable, UnexpectedRequest}
use Rattle.stanza_model.specs.declared.kinds.Kind.{Kind}
use Rattle.stanza_model.specs.declared.kinds.Kind.TheVariants as kind
use Rattle.stanza_model.specs.declared.stanza.Stanza.{Stanza}

-- The parts of an element.
assigned-le : (value : List ℕ) → length (assigned value) ≤ 3 + 6 * length value
assigned-le value = grind (arith, common_steps, length-value_text-le value)

space-le : (b : Bool) (space : List ℕ) → length (if b then [] else codes " xmlns" ++ assigned space) ≤ 9 + 6 * length space
space-le true space = omega arith
space-le false space = omega (arith, assigned-le space, length-append (codes " xmlns") (assigned space))

pub named-le : (parent : List ℕ) (n : Name) → length (named parent n) ≤ 10 + length n.local + 6 * length n.space
unfolding named
named-le parent n = grind (arith, common_steps, space-le (bytes_eq parent n.space) n.space)

pub closed-le : (local content : List ℕ) → length (closed local content) ≤ 4 + length local + length content
unfolding closed
closed-le local content = grind (arith, common_steps)

-- an element is its names, its attributes and its content
pub under-parts : (parent : List ℕ) (e : Element) → length (text_under parent e)
    ≡ length (named parent e.name) + length (declarations 0 e.attrs) + length (attributes 0 e.attrs)
    + length (closed e.name.local (texts_under e.name.space e.children))
unfolding opened
under-parts parent e = grind (arith, common_steps, ap length (text_under-parts parent e))

-- an element is at most as long as its names, its attributes and its content, and the signs round them
pub under-le : (parent space local : List ℕ) (attrs : List Attr) (children : List Node)
    → length (text_under parent (element_of space local attrs children))
    ≤ 14 + 2 * length local + 6 * length space + length (declarations 0 attrs) + length (attributes 0 attrs)
    + length (texts_under space children)
under-le parent space local attrs children =
    omega (
      arith,
      under-parts parent (element_of space local attrs children),
      named-le parent (record { space = space; local = local }),
      closed-le local (texts_under space children),
    )

pub first-length : (s : List ℕ) (e : Element) (ns : List Node)
    → length (texts_under s (roll-Node (Child e) ∷ ns)) ≡ length (text_under s e) + length (texts_under s ns)
first-length s e ns =
    ap length (texts-child s (roll-Node (Child e)) ns e (out-roll-Node (Child e)))
    ∙ length-append (text_under s e) (texts_under s ns)

plain-length : (local value : List ℕ)
    → length (unprefixed (plain_attr local value)) ≡ 4 + length local + length (value_text value)
unfolding unprefixed
plain-length local value = grind (arith, common_steps)

pub plain-attributes : (local value : List ℕ) (more : List Attr)
    → length (attributes 0 (plain_attr local value ∷ more))
    ≡ 4 + length local + length (value_text value) + length (attributes 0 more)
unfolding needs_prefix
plain-attributes local value more =
    length-append (unprefixed (plain_attr local value)) (attributes 0 more)
    ∙ ap (λ (n : ℕ). n + length (attributes 0 more)) (plain-length local value)

pub plain-declared : (local value : List ℕ) (more : List Attr)
    → declarations 0 (plain_attr local value ∷ more) ≡ declarations 0 more
unfolding needs_prefix
plain-declared local value more = refl

-- an element with one attribute
pub one-attribute-le : (parent space local name value : List ℕ) (children : List Node)
    → length (text_under parent (element_of space local (plain_attr name value ∷ []) children))
    ≤ 18 + 2 * length local + 6 * length space + length name + 6 * length value + length (texts_under space children)
one-attribute-le parent space local name value children =
    omega (
      arith,
      under-le parent space local (plain_attr name value ∷ []) children,
      plain-attributes name value [],
      ap length (plain-declared name value []),
      length-value_text-le value,
    )

-- What an error says.
name-short : (c : Condition) → length (condition_name c) ≤ 24
name-short BadRequest = omega arith
name-short Conflict = omega arith
name-short FeatureNotImplemented = omega arith
name-short Forbidden = omega arith
name-short ItemNotFound = omega arith
name-short JidMalformed = omega arith
name-short NotAcceptable = omega arith
name-short NotAllowed = omega arith
name-short NotAuthorized = omega arith
name-short RegistrationRequired = omega arith
name-short RemoteServerNotFound = omega arith
name-short ResourceConstraint = omega arith
name-short ServiceUnavailable = omega arith
name-short UnexpectedRequest = omega arith

type-short : (c : Condition) → length (error_type c) ≤ 6
type-short BadRequest = omega arith
type-short Conflict = omega arith
type-short FeatureNotImplemented = omega arith
type-short Forbidden = omega arith
type-short ItemNotFound = omega arith
type-short JidMalformed = omega arith
type-short NotAcceptable = omega arith
type-short NotAllowed = omega arith
type-short NotAuthorized = omega arith
type-short RegistrationRequired = omega arith
type-short RemoteServerNotFound = omega arith
type-short ResourceConstraint = omega arith
type-short ServiceUnavailable = omega arith
type-short UnexpectedRequest = omega arith

condition-le : (c : Condition) → length (text_under client_space (condition_element c)) ≤ 300
condition-le c = omega (arith, name-short c, under-le client_space condition_space (condition_name c) [] [])

error-le : (c : Condition) → length (text_under client_space (error_child c)) ≤ 500
error-le c =
    omega (
      arith,
      type-short c,
      condition-le c,
      one-attribute-le client_space client_space (codes "error") (codes "type") (error_type c) (one_child (condition_element c)),
      first-length client_space (condition_element c) [],
    )

-- The attributes of a reply. How long an attribute's value is as it is spelt, where there is one:
abbrev pub spelt_length : Option (List ℕ) → ℕ
spelt_length None = 0
spelt_length (Some value) = length (value_text value)

pub if-attributes : (local : List ℕ) (value : Option (List ℕ)) (more : List Attr)
    → length (attributes 0 (attr_if local value ++ more))
    ≤ 4 + length local + spelt_length value + length (attributes 0 more)
if-attributes local None more = omega arith
if-attributes local (Some value) more = omega (arith, plain-attributes local value more)

pub if-declared : (local : List ℕ) (value : Option (List ℕ)) (more : List Attr)
    → declarations 0 (attr_if local value ++ more) ≡ declarations 0 more
if-declared local None more = refl
if-declared local (Some value) more = plain-declared local value more

from-short : (to : Option Address) → IfSome to (λ a. length (address_text a) ≤ 3071)
    → spelt_length (option_map address_text to) ≤ 18426
from-short None short = omega arith
from-short (Some a) short = omega (arith, short, length-value_text-le (address_text a))

kind-short : (k : Kind) → length (kind_name k) ≤ 8
kind-short kind.Message = omega arith
kind-short kind.Presence = omega arith
kind-short kind.Iq = omega arith

-- from the address that the stanza was for, with its id, and of this type
abbrev said_attrs : (from id : Option (List ℕ)) → (form : List ℕ) → List Attr
said_attrs from id form = attr_if (codes "from") from ++ (attr_if (codes "id") id ++ plain_attr (codes "type") form ∷ [])

reply-attrs : (st : Stanza) (form : List ℕ) → reply_attrs st form ≡ said_attrs (option_map address_text (to_in st)) (id_in st) form
reply-attrs st form = regrouped (option_map address_text (to_in st)) (id_in st)
  where
    regrouped : (from id : Option (List ℕ))
        → attr_if (codes "from") from ++ attr_if (codes "id") id ++ plain_attr (codes "type") form ∷ [] ≡ said_attrs from id form
    regrouped None id = refl
    regrouped (Some value) id = refl

said-declared : (from id : Option (List ℕ)) (form : List ℕ) → declarations 0 (said_attrs from id form) ≡ []
said-declared from id form =
    if-declared (codes "from") from (attr_if (codes "id") id ++ plain_attr (codes "type") form ∷ [])
    ∙ (if-declared (codes "id") id (plain_attr (codes "type") form ∷ []) ∙ plain-declared (codes "type") form [])

said-le : (from id : Option (List ℕ)) (form : List ℕ)
    → length (attributes 0 (said_attrs from id form)) ≤ 22 + spelt_length from + spelt_length id + 6 * length form
said-le from id form =
    omega (
      arith,
      if-attributes (codes "from") from (attr_if (codes "id") id ++ plain_attr (codes "type") form ∷ []),
      if-attributes (codes "id") id (plain_attr (codes "type") form ∷ []),
      plain-attributes (codes "type") form [],
      length-value_text-le form,
    )

-- a reply to a stanza that fits
pub reply-le : (st : Stanza) (form : List ℕ) (content : List Node)
    → IfSome (to_in st) (λ a. length (address_text a) ≤ 3071) → spelt_length (id_in st) ≤ 196608 → length form ≤ 6
    → length (texts_under client_space content) ≤ 280000 → length (text (reply st form content)) ≤ 500000
reply-le st form content to id type small =
    omega (
      arith,
      id,
      type,
      small,
      from-short (to_in st) to,
      kind-short (kind_in st),
      under-le client_space client_space (kind_name (kind_in st)) (reply_attrs st form) content,
      ap (λ (attrs : List Attr). length (declarations 0 attrs)) (reply-attrs st form),
      ap (λ (attrs : List Attr). length (attributes 0 attrs)) (reply-attrs st form),
      ap length (said-declared (option_map address_text (to_in st)) (id_in st) form),
      said-le (option_map address_text (to_in st)) (id_in st) form,
    )

pub error-reply-le : (st : Stanza) (c : Condition) → IfSome (to_in st) (λ a. length (address_text a) ≤ 3071)
    → spelt_length (id_in st) ≤ 196608 → length (text (error_of st c)) ≤ 500000
error-reply-le st c to id =
    reply-le st (codes "error") (one_child (error_child c)) to id (omega arith)
    (omega (arith, error-le c, first-length client_space (error_child c) []))

pub empty-reply-le : (st : Stanza) → IfSome (to_in st) (λ a. length (address_text a) ≤ 3071)
    → spelt_length (id_in st) ≤ 196608 → length (text (result_of st [])) ≤ 500000
empty-reply-le st to id = reply-le st (codes "result") [] to id (omega arith) (omega arith)
