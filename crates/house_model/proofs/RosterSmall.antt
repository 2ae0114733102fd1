-- What two users are told of their subscription, and a user of its roster, is small.
use Rattle.std.proofs.Common.{◌≡◌, ℕ, ◌+◌, ◌≤◌, List, [], ◌∷◌, ◌++◌, map, length, sum, Option, Some, None, Bool, true}
use Rattle.std.proofs.Common.{false, cond, codes, refl, sym, ap, subst, arith, length-append}
use Rattle.std.specs.Prelude.{IfSome, unwrap_or}
use Rattle.std.proofs.lemmas.List.Sums.{sum_by-cons}
use Rattle.std.proofs.lemmas.Option.{same_Some}
use Rattle.stanza_tree.specs.Entries.{frame}
use Rattle.stanza_tree.specs.Spelling.{client_space, text, text_under}
use Rattle.stanza_tree.specs.declared.frame.Origin.TheVariants.{Direct}
use Rattle.stanza_tree.specs.declared.node.Element.{Element}
use Rattle.stanza_tree.proofs.Bounds.{length-frame, length-value_text-le}
use Rattle.jid_core.specs.Addresses.{Address, address_text, local_text, resource_text, same_address}
use Rattle.stanza_model.specs.Errors.{plain_attr}
use Rattle.stanza_model.specs.RosterLimits.{counted, most_text}
use Rattle.stanza_model.specs.Rosters.{item, push, roster_space}
use Rattle.stanza_model.specs.declared.here.Here.{Here}
use Rattle.stanza_model.specs.declared.kinds.PresenceForm.{PresenceForm}
use Rattle.stanza_model.specs.declared.kinds.PresenceForm.TheVariants.{Available, Unavailable, Subscribe, Subscribed, Unsubscribe, Unsubscribed, Probe, Error}
use Rattle.stanza_model.specs.declared.shared.Contact.{Contact}
use Rattle.stanza_model.specs.declared.shared.Side.{Side}
use Rattle.contact_table.specs.Books.{bare_of}
use Rattle.subscription_pairs.specs.Deliveries.{presence_from}
use Rattle.subscription_pairs.specs.Users.{contact_by, contact_of, new_contact}
use Rattle.house_model.specs.Fitting.{IsShortScene}
use Rattle.house_model.specs.Presences.{party}
use Rattle.house_model.specs.Routing.{Scene, own_contacts}
use Rattle.house_model.proofs.SmallEffects.{Small}
use Rattle.house_model.proofs.ReplySizes.{under-le, plain-attributes, plain-declared}
use Rattle.house_model.proofs.RosterCases.{IsAt, IsSeen, Reaches, party_seen}
use Rattle.house_model.proofs.RosterSizes.{item-le, new-le, push-le}

abbrev pub IsShortItem : Element → Type 0
IsShortItem x = length (text_under roster_space x) ≤ 200000

abbrev pub IsShortName : Address → Type 0
IsShortName a = length (address_text a) ≤ 4200

abbrev pub IsShortText : List ℕ → Type 0
IsShortText t = length t ≤ 30000

-- the bare address of a user
pub bare-short : (domain user : List ℕ) → length domain ≤ 1023 → length user ≤ 3071 → IsShortName (bare_of domain user)
bare-short domain user small short =
    omega (
      arith,
      small,
      short,
      length-append (local_text (Some user) ++ domain) (resource_text None),
      length-append (local_text (Some user)) domain,
      length-append user (64 ∷ []),
    )

-- A presence from it.
from-le : (x : Address) → IsShortName x → length (text (presence_from x Available)) ≤ 30000
from-le x short =
    omega (
      arith,
      short,
      under-le client_space client_space (codes "presence") (plain_attr (codes "from") (address_text x) ∷ []) [],
      plain-attributes (codes "from") (address_text x) [],
      ap length (plain-declared (codes "from") (address_text x) []),
      length-value_text-le (address_text x),
    )

typed-le : (x : Address) (form : List ℕ) → IsShortName x → length form ≤ 12
    → length (text (record {
      name = record { space = client_space; local = codes "presence" };
      attrs = plain_attr (codes "from") (address_text x) ∷ plain_attr (codes "type") form ∷ [];
      children = [];
    })) ≤ 30000
typed-le x form short few =
    omega (
      arith,
      short,
      few,
      under-le client_space client_space (codes "presence")
          (plain_attr (codes "from") (address_text x) ∷ plain_attr (codes "type") form ∷ []) [],
      plain-attributes (codes "from") (address_text x) (plain_attr (codes "type") form ∷ []),
      plain-attributes (codes "type") form [],
      ap length (plain-declared (codes "from") (address_text x) (plain_attr (codes "type") form ∷ [])),
      ap length (plain-declared (codes "type") form []),
      length-value_text-le (address_text x),
      length-value_text-le form,
    )

pub pair-presence-le : (x : Address) (form : PresenceForm) → IsShortName x → length (text (presence_from x form)) ≤ 30000
pair-presence-le x Available short = from-le x short
pair-presence-le x Unavailable short = typed-le x (codes "unavailable") short (omega arith)
pair-presence-le x Subscribe short = typed-le x (codes "subscribe") short (omega arith)
pair-presence-le x Subscribed short = typed-le x (codes "subscribed") short (omega arith)
pair-presence-le x Unsubscribe short = typed-le x (codes "unsubscribe") short (omega arith)
pair-presence-le x Unsubscribed short = typed-le x (codes "unsubscribed") short (omega arith)
pair-presence-le x Probe short = typed-le x (codes "probe") short (omega arith)
pair-presence-le x Error short = typed-le x (codes "error") short (omega arith)

-- a frame with a short address
framed : (to rest : List ℕ) → length to ≤ 3071 → length rest ≤ 500000
    → length (frame (record { to = to; rest = rest; origin = Direct })) ≤ 524288
framed to rest own short =
    omega (arith, own, short, length-frame (record { to = to; rest = rest; origin = Direct }), length-value_text-le to)

-- An item of a roster whose items are few bytes.
found-counted : (cs : List Contact) (x : Address) (c : Contact) → contact_of cs x ≡ Some c → counted c ≤ sum (map counted cs)
found-counted [] x c is = absurd (cc)
found-counted (d ∷ cs) x c is = by (same_address d.address x) (found-counted cs x c) is
  where
    by : (b : Bool) → (contact_of cs x ≡ Some c → counted c ≤ sum (map counted cs))
        → cond b (Some d) (contact_of cs x) ≡ Some c → counted c ≤ sum (map counted (d ∷ cs))
    by true later here =
        let same : d ≡ c = same_Some d c here in
        omega (arith, sum_by-cons (λ n. n) (counted d) (map counted cs), ap counted same)
    by false later there = (let low = later there in omega (arith, sum_by-cons (λ n. n) (counted d) (map counted cs), low))

item-short : (cs : List Contact) (x : Address) (side : Side) → sum (map counted cs) ≤ most_text → IsShortName x
    → IsShortItem (item (contact_by x side (contact_of cs x)))
item-short cs x side small short = by (contact_of cs x) refl
  where
    by : (found : Option Contact) → contact_of cs x ≡ found → IsShortItem (item (contact_by x side found))
    by None is = omega (arith, item-le (new_contact x side), new-le x side short)
    by (Some c) is = omega (arith, small, item-le (contact_by x side (Some c)), found-counted cs x c is)

module _ (o : Scene) (short : IsShortScene o) where
  at-short : (h : Here) → IsAt o.world h → length (address_text h.address) ≤ 3071
  at-short h at = subst (λ (a : Address). length (address_text a) ≤ 3071) (sym at.address) (short.addresses h.session)

  pub small-reaches : Reaches o.world Small IsShortItem IsShortName IsShortText
  small-reaches = record {
    sees = λ x y is. tt;
    asked = λ x y is. tt;
    contact = λ user x name groups. tt;
    no_contact = λ user x. tt;
    count = λ h at n. tt;
    item = λ h at x is.
        framed (address_text h.address) (text (push (h.pushes + 1) x)) (at-short h at)
        (let few = short.pushes h.session in push-le (h.pushes + 1) x (omega (arith, few, at.pushes)) is);
    presence = λ h at x form is.
        framed (address_text h.address) (text (presence_from x form)) (at-short h at)
        (let few = pair-presence-le x form is in omega (arith, few));
    sent = λ h at t is. framed (address_text h.address) t (at-short h at) (omega (arith, is));
    gone = λ h at. (let low = at-short h at in pair-presence-le h.address Unavailable (omega (arith, low)));
  }

  kept-short : (p : Option (List ℕ)) → IfSome p (λ t. length t ≤ 16384) → length (unwrap_or p []) ≤ 30000
  kept-short None is = omega arith
  kept-short (Some p) is = omega (arith, is)

  pub small-seen : (user : List ℕ) → length user ≤ 3071 → IsSeen o.world IsShortItem IsShortName IsShortText (party o.domain o.world user)
  small-seen user few =
      party_seen o.domain o.world user IsShortItem IsShortName IsShortText (bare-short o.domain user short.domain few)
      (λ x side is. item-short (own_contacts o user) x side (short.rosters user) is)
      (λ h. kept-short (o.world.sessions h.session).rest.manner.presence (short.presences h.session))
