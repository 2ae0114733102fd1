-- What two users are told of their subscription, and a user of its roster, effect by effect.
use Rattle.std.proofs.Common.{◌≡◌, ℕ, ◌+◌, ◌≤◌, List, [], ◌∷◌, map, Option, Some, None, Bool, true, false, if◌then◌else◌, refl, ap, arith}
use Rattle.std.specs.List.{AllByRecursion, filter}
use Rattle.jid_core.specs.Addresses.{Address, address_text}
use Rattle.stanza_tree.specs.Spelling.{text}
use Rattle.stanza_tree.specs.declared.frame.Origin.TheVariants.{Direct}
use Rattle.stanza_tree.specs.declared.node.Element.{Element}
use Rattle.stanza_model.specs.Replies.{error_of, may_be_answered, refused, result_of, said_to}
use Rattle.stanza_model.specs.Rosters.{item, pushed_to, pushes, pushes_if}
use Rattle.stanza_model.specs.declared.condition.Condition.{Condition}
use Rattle.stanza_model.specs.declared.condition.Condition.TheVariants.{BadRequest}
use Rattle.stanza_model.specs.declared.effect.Change.TheVariants as change
use Rattle.stanza_model.specs.declared.effect.Effect.{Effect}
use Rattle.stanza_model.specs.declared.effect.Effect.TheVariants.{Queue, Set}
use Rattle.stanza_model.specs.declared.here.Here.{Here}
use Rattle.stanza_model.specs.declared.kinds.PresenceForm.{PresenceForm}
use Rattle.stanza_model.specs.declared.kinds.PresenceForm.TheVariants.{Unavailable}
use Rattle.stanza_model.specs.declared.shared.Contact.{Contact}
use Rattle.stanza_model.specs.declared.shared.Show.{Show}
use Rattle.stanza_model.specs.declared.shared.Show.TheVariants.{Nothing, MineAvailable, MineUnavailable, TheirsUnavailable}
use Rattle.stanza_model.specs.declared.shared.Side.{Side}
use Rattle.stanza_model.specs.declared.stanza.Stanza.{Stanza}
use Rattle.roster_book.specs.Items.{wanted_in}
use Rattle.roster_book.specs.Refusals.{refusal}
use Rattle.roster_book.specs.Requests.{change_of, changed_item, done, roster_set, set_wanted, unless}
use Rattle.roster_book.specs.Requests as requests
use Rattle.roster_book.specs.declared.item.Wanted.{Wanted}
use Rattle.subscription_pairs.specs.Changes.{after_pushes, removal, told}
use Rattle.subscription_pairs.specs.Deliveries.{all_sent_to, delivered, presence_from, receives, sent_to, shown, unavailable_of}
use Rattle.subscription_pairs.specs.Users.{User, contact_by, contact_of}
use Rattle.contact_table.specs.Books.{bare_of, contacts_of}
use Rattle.house_model.specs.Lookups.{sessions_of}
use Rattle.house_model.specs.Presences.{available_of, party, presence_of}
use Rattle.house_model.specs.States.{World}
use Rattle.house_model.specs.Traffic.{KeptTraffic}
use Rattle.house_model.proofs.Founds.{AreFound, IsFound, IsHere, append_all, either_all, filter_all, numbers_found}
use Rattle.house_model.proofs.PairCases.{Tells, removal_all}

-- a session that is found, as the rules on stanzas see it, but that it may have been pushed once more
pub record IsAt (world : World KeptTraffic) (h : Here) : Type 0 where
  pub found : IsFound world h.session
  pub pushes : h.pushes ≤ (world.sessions h.session).rest.manner.pushes + 1
  pub address : h.address ≡ (world.sessions h.session).rest.address

abbrev pub AreAt : World KeptTraffic → List Here → Type 0
AreAt world hs = AllByRecursion (IsAt world) hs

here_at : (world : World KeptTraffic) (h : Here) → IsHere world h → IsAt world h
here_at world h is = record {
  found = is.found;
  pushes = (let same = ap (λ (x : Here). x.pushes) is.seen in omega (arith, same));
  address = ap (λ (x : Here). x.address) is.seen;
}

pub found_at : (world : World KeptTraffic) (hs : List Here) → AreFound world hs → AreAt world hs
found_at world [] all = tt
found_at world (h ∷ hs) all =
    (here_at world h all.0, found_at world hs all.1)

told_at : (world : World KeptTraffic) (h : Here) → IsHere world h → (b : Bool) → IsAt world (if b then record h { pushes = h.pushes + 1 } else h)
told_at world h at true = record {
  found = at.found;
  pushes = (let same = ap (λ (x : Here). x.pushes) at.seen in omega (arith, same));
  address = ap (λ (x : Here). x.address) at.seen;
}
told_at world h at false = here_at world h at

pub all_told_at : (world : World KeptTraffic) (hs : List Here) → AreFound world hs → AreAt world (map told hs)
all_told_at world [] all = tt
all_told_at world (h ∷ hs) all = (told_at world h all.0 h.wants_roster, all_told_at world hs all.1)

presences_kept : (world : World KeptTraffic) (T : List ℕ → Type 0) → ((h : Here) → T (presence_of world h)) → (hs : List Here)
    → AllByRecursion T (map (presence_of world) hs)
presences_kept world T each [] = tt
presences_kept world T each (h ∷ hs) = (each h, presences_kept world T each hs)

-- what holds of all that is queued for a session that is found, where the item, the address and the text keep to these
pub record Reaches (world : World KeptTraffic) (P : Effect → Type 0) (I : Element → Type 0) (A : Address → Type 0) (T : List ℕ → Type 0) : Type 0 where
  pub sees : (x y : Address) (is : Bool) → P (Set (change.Sees x y is))
  pub asked : (x y : Address) (is : Bool) → P (Set (change.Asked x y is))
  pub contact : (user : List ℕ) (x : Address) (name : List ℕ) (groups : List (List ℕ)) → P (Set (change.Contact user x name groups))
  pub no_contact : (user : List ℕ) (x : Address) → P (Set (change.NoContact user x))
  pub count : (h : Here) → IsAt world h → (n : ℕ) → P (Set (change.Pushed h.session n))
  pub item : (h : Here) → IsAt world h → (x : Element) → I x → P (pushed_to h x)
  pub presence : (h : Here) → IsAt world h → (x : Address) (form : PresenceForm) → A x → P (said_to h (presence_from x form))
  pub sent : (h : Here) → IsAt world h → (t : List ℕ) → T t → P (Queue h.session (address_text h.address) t Direct)
  pub gone : (h : Here) → IsAt world h → T (text (presence_from h.address Unavailable))

-- a user whose sessions are found, and whose items, address and presences keep to these
pub record IsSeen (world : World KeptTraffic) (I : Element → Type 0) (A : Address → Type 0) (T : List ℕ → Type 0) (a : User) : Type 0 where
  pub sessions : AreAt world a.sessions
  pub bare : A a.bare
  pub items : (x : Address) (side : Side) → A x → I (item (contact_by x side (contact_of a.contacts x)))
  pub presences : AllByRecursion T a.presences

pub party_seen : (domain : List ℕ) (world : World KeptTraffic) (user : List ℕ) (I : Element → Type 0) (A : Address → Type 0) (T : List ℕ → Type 0)
    → A (bare_of domain user)
    → ((x : Address) (side : Side) → A x → I (item (contact_by x side (contact_of (contacts_of domain world.book user) x))))
    → ((h : Here) → T (presence_of world h)) → IsSeen world I A T (party domain world user)
party_seen domain world user I A T short items kept = record {
  sessions = found_at world (sessions_of world user) (numbers_found world user);
  bare = short;
  items = items;
  presences = presences_kept world T kept (available_of world user);
}

module _ (world : World KeptTraffic) (P : Effect → Type 0) (I : Element → Type 0) (A : Address → Type 0) (T : List ℕ
    → Type 0) (each : Reaches world P I A T) where
  one_all : (h : Here) → IsAt world h → (x : Element) → I x → (b : Bool) → AllByRecursion P (pushes_if b h x)
  one_all h at x is true = (each.item h at x is, (each.count h at (h.pushes + 1), tt))
  one_all h at x is false = tt

  pub pushes_all : (hs : List Here) → AreAt world hs → (x : Element) → I x → AllByRecursion P (pushes hs x)
  pushes_all [] at x is = tt
  pushes_all (h ∷ hs) at x is =
      append_all P (pushes_if h.wants_roster h x) (pushes hs x) (one_all h at.0 x is h.wants_roster) (pushes_all hs at.1 x is)

  said_all : (form : PresenceForm) (x : Address) → A x → (hs : List Here) → AreAt world hs
      → AllByRecursion P (map (λ h. said_to h (presence_from x form)) hs)
  said_all form x is [] at = tt
  said_all form x is (h ∷ hs) at = (each.presence h at.0 x form is, said_all form x is hs at.1)

  delivered_all : (form : PresenceForm) (x : Address) → A x → (hs : List Here) → AreAt world hs → AllByRecursion P (delivered form x hs)
  delivered_all form x is hs at = said_all form x is (filter (receives form) hs) (filter_all (IsAt world) (receives form) hs at)

  queued_all : (t : List ℕ) → T t → (hs : List Here) → AreAt world hs
      → AllByRecursion P (map (λ h. Queue h.session (address_text h.address) t Direct) hs)
  queued_all t is [] at = tt
  queued_all t is (h ∷ hs) at = (each.sent h at.0 t is, queued_all t is hs at.1)

  sent_all : (hs : List Here) → AreAt world hs → (ts : List (List ℕ)) → AllByRecursion T ts → AllByRecursion P (all_sent_to hs ts)
  sent_all hs at [] is = tt
  sent_all hs at (t ∷ ts) is =
      append_all P (sent_to hs t) (all_sent_to hs ts)
      (queued_all t is.0 (filter (λ h. h.available) hs) (filter_all (IsAt world) (λ h. h.available) hs at)) (sent_all hs at ts is.1)

  gone_all : (hs : List Here) → AreAt world hs → AllByRecursion T (map (λ h. text (presence_from h.address Unavailable)) hs)
  gone_all [] at = tt
  gone_all (h ∷ hs) at = (each.gone h at.0, gone_all hs at.1)

  away_all : (hs : List Here) → AreAt world hs → AllByRecursion T (unavailable_of hs)
  away_all hs at = gone_all (filter (λ h. h.available) hs) (filter_all (IsAt world) (λ h. h.available) hs at)

  shown_all : (a b : User) → IsSeen world I A T a → IsSeen world I A T b → (show : Show) → AllByRecursion P (shown show a b)
  shown_all a b one other Nothing = tt
  shown_all a b one other MineAvailable = sent_all b.sessions other.sessions a.presences one.presences
  shown_all a b one other MineUnavailable = sent_all b.sessions other.sessions (unavailable_of a.sessions) (away_all a.sessions one.sessions)
  shown_all a b one other TheirsUnavailable = sent_all a.sessions one.sessions (unavailable_of b.sessions) (away_all b.sessions other.sessions)

  pub tells : (a b : User) → IsSeen world I A T a → IsSeen world I A T b → Tells P a b
  tells a b one other = record {
    sees = each.sees;
    asked = each.asked;
    made = each.contact _ _ _ _;
    push_mine = λ side. pushes_all a.sessions one.sessions _ (one.items b.bare side other.bare);
    push_theirs = λ side. pushes_all b.sessions other.sessions _ (other.items a.bare side one.bare);
    deliver = λ form. delivered_all form a.bare one.bare b.sessions other.sessions;
    back = λ form. delivered_all form b.bare other.bare a.sessions one.sessions;
    shown = shown_all a b one other;
  }

  after_seen : (b : User) → IsSeen world I A T b → AreAt world (map told b.sessions) → (on : Bool)
      → IsSeen world I A T (if on then record b { sessions = map told b.sessions } else b)
  after_seen b is later true = record {
    sessions = later;
    bare = is.bare;
    items = is.items;
    presences = is.presences;
  }
  after_seen b is later false = is

  pub parted_all : (a b : User) → IsSeen world I A T a → IsSeen world I A T b → AreAt world (map told b.sessions)
      → AllByRecursion P (removal a b)
  parted_all a b one other later =
      removal_all P a b (tells a b one other)
      (λ o. tells a (after_pushes o b) one (after_seen b other later o.push_theirs))

  -- A roster set.
  refused_all : (who : Here) (st : Stanza) (c : Condition) → P (said_to who (error_of st c)) → AllByRecursion P (refused who st c)
  refused_all who st c is = either_all P (may_be_answered st) (said_to who (error_of st c) ∷ []) [] (is, tt) tt

  changed_all : (remove : Bool) (user : List ℕ) (x : Contact) → P (Set (change_of remove user x))
  changed_all false user x = each.contact user x.address x.name x.groups
  changed_all true user x = each.no_contact user x.address

  done_all : (owner : Address) (contacts : List Contact) (who : Here) (own : List Here) (st : Stanza) (w : Wanted) → AreAt world own
      → P (said_to who (result_of st [])) → I (changed_item w.remove contacts w.contact)
      → AllByRecursion P (done owner contacts who own st w)
  done_all owner contacts who own st w at result is = (
    changed_all w.remove (requests.user_of owner) w.contact,
    append_all P (pushes own (changed_item w.remove contacts w.contact)) (said_to who (result_of st []) ∷ [])
        (pushes_all own at (changed_item w.remove contacts w.contact) is) (result, tt),
  )

  pub set_all : (owner : Address) (contacts : List Contact) (who : Here) (own : List Here) (st : Stanza) → AreAt world own
      → ((c : Condition) → P (said_to who (error_of st c))) → P (said_to who (result_of st []))
      → ((w : Wanted) → wanted_in owner st ≡ Some w → refusal contacts w ≡ None → I (changed_item w.remove contacts w.contact))
      → AllByRecursion P (roster_set owner contacts who own st)
  set_all owner contacts who own st at refusals result items = by (wanted_in owner st) refl
    where
      by_refusal : (w : Wanted) → wanted_in owner st ≡ Some w → (c : Option Condition) → refusal contacts w ≡ c
          → AllByRecursion P (unless c who st (done owner contacts who own st w))
      by_refusal w wants None is = done_all owner contacts who own st w at result (items w wants is)
      by_refusal w wants (Some c) is = refused_all who st c (refusals c)

      by : (found : Option Wanted) → wanted_in owner st ≡ found → AllByRecursion P (set_wanted owner contacts who own st found)
      by None is = refused_all who st BadRequest (refusals BadRequest)
      by (Some w) is = by_refusal w is (refusal contacts w) refl
