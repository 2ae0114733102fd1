-- What a roster set wants is short.
use Rattle.std.proofs.Common.{◌≡◌, ℕ, ◌≤◌, List, [], ◌∷◌, length, Option, Some, None, Result, Ok, Err, Bool, true, false, not}
use Rattle.std.proofs.Common.{◌&&◌, ◌||◌, codes, refl, ap, subst, ◌∙◌, arith, bytes_eq, nat_lt, if◌then◌else◌}
use Rattle.std.specs.Prelude.{is_some}
use Rattle.std.specs.Option.{option_and_then, option_map}
use Rattle.std.proofs.lemmas.Bool.{ltb-false}
use Rattle.std.proofs.lemmas.Option.{same_Some}
use Rattle.stanza_tree.specs.Attributes.{attr_of}
use Rattle.stanza_tree.specs.Spelling.{text_under}
use Rattle.stanza_tree.specs.declared.node.Element.{Element}
use Rattle.stanza_tree.proofs.Bounds.{length-value_text-le}
use Rattle.jid_core.specs.Addresses.{Address, address_of, address_text}
use Rattle.jid_core.specs.declared.fault.JidFault.{JidFault}
use Rattle.stanza_model.specs.Errors.{plain_attr}
use Rattle.stanza_model.specs.RosterLimits.{counted, most_text}
use Rattle.stanza_model.specs.Rosters.{removed_item, roster_space}
use Rattle.stanza_model.specs.Stanzas.{address_if}
use Rattle.stanza_model.specs.declared.condition.Condition.TheVariants.{BadRequest, ItemNotFound, NotAcceptable, ResourceConstraint}
use Rattle.stanza_model.specs.declared.shared.Contact.{Contact}
use Rattle.stanza_model.specs.declared.stanza.Stanza.{Stanza}
use Rattle.contact_table.specs.Books.{local_user}
use Rattle.roster_book.specs.Items.{address_in, contact_in, is_other, is_removal, only_item, other_than, query_in, wanted_by, wanted_in}
use Rattle.roster_book.specs.Refusals.{contact_at, has_wrong_groups, has_wrong_texts, is_missing, is_one_too_many, is_too_large, refusal, text_after}
use Rattle.roster_book.specs.Requests.{changed_item, removed_by, removed_in, updated}
use Rattle.roster_book.specs.declared.item.Wanted.{Wanted}
use Rattle.house_model.proofs.NameSizes.{local-le, read-short}
use Rattle.house_model.proofs.ReplySizes.{under-le, plain-attributes, plain-declared}
use Rattle.house_model.proofs.RosterSizes.{item-le}

-- its address was read
if-short : (text : List ℕ) (r : Result Address JidFault) (a : Address) → address_of text ≡ r → address_if r ≡ Some a → length (address_text a) ≤ 3071
if-short text (Err fault) a at is = absurd (cc)
if-short text (Ok b) a at is = read-short text a (at ∙ ap Ok (same_Some b a is))

pub in-short : (o : Option (List ℕ)) (a : Address) → option_and_then (λ text. address_if (address_of text)) o ≡ Some a → length (address_text a) ≤ 3071
in-short None a is = absurd (cc)
in-short (Some text) a is = if-short text (address_of text) a refl is

by-short : (owner : Address) (e : Element) (found : Option Address) (w : Wanted)
    → ((a : Address) → found ≡ Some a → length (address_text a) ≤ 3071)
    → option_map (λ address. record { contact = contact_in e address; remove = is_removal e }) (option_and_then (other_than owner) found) ≡ Some w
    → length (address_text w.contact.address) ≤ 3071
by-short owner e None w short is = absurd (cc)
by-short owner e (Some a) w short is = by (is_other owner a) is
  where
    by : (b : Bool)
        → option_map (λ address. record { contact = contact_in e address; remove = is_removal e }) (if b then Some a else None) ≡ Some w
        → length (address_text w.contact.address) ≤ 3071
    by true here =
        let same : record { contact = contact_in e a; remove = is_removal e } ≡ w = same_Some _ w here in
        subst (λ (x : Wanted). length (address_text x.contact.address) ≤ 3071) same (short a refl)
    by false here = absurd (cc)

pub wanted-short : (owner : Address) (st : Stanza) (w : Wanted) → wanted_in owner st ≡ Some w → length (address_text w.contact.address) ≤ 3071
wanted-short owner st w is = by (option_and_then only_item (query_in st)) is
  where
    by : (o : Option Element) → option_and_then (wanted_by owner) o ≡ Some w → length (address_text w.contact.address) ≤ 3071
    by None here = absurd (cc)
    by (Some e) here = by-short owner e (address_in e) w (λ a at. in-short (attr_of (codes "jid") e.attrs) a at) here

-- whom it removes
removed-short : (owner : Address) (contacts : List Contact) (st : Stanza) (a : Address) → removed_by owner contacts st ≡ Some a
    → length (address_text a) ≤ 3071
removed-short owner contacts st a is = by (wanted_in owner st) refl is
  where
    from : (w : Wanted) (b : Bool) → wanted_in owner st ≡ Some w → (if b then Some w.contact.address else None) ≡ Some a
        → length (address_text a) ≤ 3071
    from w true wants here =
        let same : w.contact.address ≡ a = same_Some _ a here in
        subst (λ (x : Address). length (address_text x) ≤ 3071) same (wanted-short owner st w wants)
    from w false wants here = absurd (cc)

    by : (o : Option Wanted) → wanted_in owner st ≡ o → option_and_then (removed_in contacts) o ≡ Some a → length (address_text a) ≤ 3071
    by None wants here = absurd (cc)
    by (Some w) wants here = from w (w.remove && not (is_some (refusal contacts w))) wants here

local-short : (domain : List ℕ) (a : Address) (user : List ℕ) → length (address_text a) ≤ 3071 → local_user domain a ≡ Some user
    → length user ≤ 3071
local-short domain a user short is = by (bytes_eq a.domain domain && not (is_some a.resource)) is
  where
    by : (b : Bool) → (if b then a.local else None) ≡ Some user → length user ≤ 3071
    by true here = omega (arith, short, local-le a user here)
    by false here = absurd (cc)

pub user-removed-short : (domain : List ℕ) (owner : Address) (contacts : List Contact) (st : Stanza) (user : List ℕ)
    → option_and_then (local_user domain) (removed_by owner contacts st) ≡ Some user → length user ≤ 3071
user-removed-short domain owner contacts st user is = by (removed_by owner contacts st) refl is
  where
    by : (o : Option Address) → removed_by owner contacts st ≡ o → option_and_then (local_user domain) o ≡ Some user → length user ≤ 3071
    by None at here = absurd (cc)
    by (Some a) at here = local-short domain a user (removed-short owner contacts st a at) here

-- the item that is pushed, where the set is not refused
or-false : (a b : Bool) → a || b ≡ false → b ≡ false
or-false true b is = absurd (cc)
or-false false b is = is

not-large : (contacts : List Contact) (w : Wanted) → refusal contacts w ≡ None → is_too_large contacts w.contact ≡ false
not-large contacts w is =
    by (has_wrong_texts w.contact) (has_wrong_groups w.contact.groups) (is_missing contacts w) (is_too_large contacts w.contact) is
  where
    by : (a b c d : Bool)
        → (if a then Some NotAcceptable else if b then Some BadRequest else if c then Some ItemNotFound else if d then Some ResourceConstraint else None) ≡ None
        → d ≡ false
    by true b c d here = absurd (cc)
    by false true c d here = absurd (cc)
    by false false true d here = absurd (cc)
    by false false false true here = absurd (cc)
    by false false false false here = refl

removed-le : (a : Address) → length (address_text a) ≤ 3071 → length (text_under roster_space (removed_item a)) ≤ 200000
removed-le a short =
    omega (
      arith,
      short,
      under-le roster_space roster_space (codes "item") (plain_attr (codes "jid") (address_text a) ∷ plain_attr (codes "subscription") (codes "remove") ∷ [])
          [],
      plain-attributes (codes "jid") (address_text a) (plain_attr (codes "subscription") (codes "remove") ∷ []),
      plain-attributes (codes "subscription") (codes "remove") [],
      ap length (plain-declared (codes "jid") (address_text a) (plain_attr (codes "subscription") (codes "remove") ∷ [])),
      ap length (plain-declared (codes "subscription") (codes "remove") []),
      length-value_text-le (address_text a),
      length-value_text-le (codes "remove"),
    )

updated-counted : (old : Option Contact) (x : Contact) → counted (updated old x) ≡ counted x
updated-counted None x = refl
updated-counted (Some c) x = refl

pub changed-le : (contacts : List Contact) (w : Wanted) → refusal contacts w ≡ None → length (address_text w.contact.address) ≤ 3071
    → length (text_under roster_space (changed_item w.remove contacts w.contact)) ≤ 200000
changed-le contacts w is short = by w.remove
  where
    by : (b : Bool) → length (text_under roster_space (changed_item b contacts w.contact)) ≤ 200000
    by true = removed-le w.contact.address short
    by false =
        let fits = ltb-false most_text (text_after contacts w.contact)
        (or-false (is_one_too_many contacts w.contact) (nat_lt most_text (text_after contacts w.contact)) (not-large contacts w is)) in
        omega (
          arith,
          fits,
          item-le (updated (contact_at w.contact.address contacts) w.contact),
          updated-counted (contact_at w.contact.address contacts) w.contact,
        )
