-- How long it is what a room answers, and what is queued of its subject, of a private message and of an invitation.
use Rattle.std.proofs.Common.{◌≡◌, ℕ, ◌+◌, ◌-◌, ◌*◌, ◌≤◌, ◌==◌, List, [], ◌∷◌, map, length, nat_le, Option, Some, None, Bool, true, false}
use Rattle.std.proofs.Common.{not, ◌&&◌, codes, refl, sym, ap, arith, sum, true≢false, length-append, if◌then◌else◌}
use Rattle.std.specs.Prelude.{IfSome}
use Rattle.std.specs.Fmt.{decimal}
use Rattle.std.specs.List.{filter}
use Rattle.std.proofs.lemmas.Bool.{leb-true}
use Rattle.std.proofs.lemmas.List.Sums.{sum_by-cons}
use Rattle.jid_core.specs.Addresses.{Address, address_text, bare}
use Rattle.stanza_tree.specs.Spelling.{client_space, text, text_under, texts_under, words_text}
use Rattle.stanza_tree.specs.Stamps.{sent_by}
use Rattle.stanza_tree.specs.declared.node.Attr.{Attr}
use Rattle.stanza_tree.specs.declared.node.Element.{Element}
use Rattle.stanza_tree.specs.declared.node.Node.{Node}
use Rattle.stanza_tree.specs.declared.node.Node.TheOpen.{Words}
use Rattle.stanza_tree.specs.declared.node.Node.TheViews.{roll-Node, out-roll-Node}
use Rattle.stanza_tree.proofs.Bounds.{length-text-sent-le, length-value_text-le, length-words_text-le}
use Rattle.stanza_tree.proofs.SpellingLemmas.{texts-words}
use Rattle.stanza_model.specs.Errors.{element_of, plain_attr}
use Rattle.stanza_model.specs.Ids.{has_body, told_with_id, without_ids}
use Rattle.stanza_model.specs.Replies.{one_child, result_of}
use Rattle.stanza_model.specs.Stanzas.{id_in, to_in}
use Rattle.stanza_model.specs.declared.here.Here.{Here}
use Rattle.stanza_model.specs.declared.room.Affiliated.{Affiliated}
use Rattle.stanza_model.specs.declared.room.Affiliation.{Affiliation}
use Rattle.stanza_model.specs.declared.room.Delayed.{Delayed}
use Rattle.stanza_model.specs.declared.room.Occupant.{Occupant}
use Rattle.stanza_model.specs.declared.room.Role.{Role}
use Rattle.stanza_model.specs.declared.room.Room.{Room}
use Rattle.stanza_model.specs.declared.shared.Config.{Config}
use Rattle.stanza_model.specs.declared.stanza.Stanza.{Stanza}
use Rattle.muc_room.specs.Entries.{no_subject, subject_text}
use Rattle.muc_room.specs.Saying.{has_child, is_subject, marked, message_text, private_text}
use Rattle.muc_room.specs.Views.{at, child_node, reason_nodes, user_space, x_of}
use Rattle.muc_admin.specs.Administration.{occupants_in}
use Rattle.muc_owner.specs.Inviting.{call_element, decline_nodes, invite_nodes, message_with, password_element, password_nodes}
use Rattle.muc_admin.specs.Items.{admin_space}
use Rattle.muc_admin.specs.Listings.{affiliation_item, affiliation_items, counted, fitting, is_same_affiliation, listing, most_text, role_items}
use Rattle.muc_owner.specs.Owning.{form_query, owner_space}
use Rattle.muc_settings.specs.Settings.{choice, choice_node, choices_of, config_form, field_element, field_node, flag, form_space, is_guarded}
use Rattle.muc_settings.specs.Settings.{setting_name}
use Rattle.muc_settings.specs.Settings.{setting_type, value_element, value_of, whois_name}
use Rattle.muc_settings.specs.declared.setting.Setting.{Setting}
use Rattle.muc_settings.specs.declared.setting.Setting.TheVariants.{FormType, Title, Persistent, MembersOnly, Moderated}
use Rattle.muc_settings.specs.declared.setting.Setting.TheVariants.{ChangeSubject, Whois, Guarded, Secret, Most}
use Rattle.house_model.specs.Fitting.{IsShortAddress}
use Rattle.house_model.proofs.IdSizes.{numbered-le, without-le}
use Rattle.house_model.proofs.PartSizes.{marked-le}
use Rattle.house_model.proofs.ReplySizes.{first-length, one-attribute-le, plain-attributes, plain-declared, reply-le, spelt_length, under-le}
use Rattle.house_model.proofs.ResultSizes.{IsShortDelayed, delayed-le}
use Rattle.house_model.proofs.StayLemmas.{choose}
use Rattle.house_model.proofs.ViewSizes.{IsShortNick, at-le}

-- messages

without-ids-le : (room : Room) (o : Occupant) (e : Element) → length (text e) ≤ 196608 → IsShortAddress room.address → IsShortNick o.nick
    → length (text (sent_by (address_text (at room.address (Some o.nick))) (without_ids room.address e))) ≤ 300000
without-ids-le room o e small host few =
    omega (
      arith,
      small,
      without-le room.address e,
      at-le room.address o.nick host few,
      length-text-sent-le (address_text (at room.address (Some o.nick))) (without_ids room.address e),
    )

pub message-le : (room : Room) (o : Occupant) (row : ℕ) (e : Element) → length (text e) ≤ 196608 → length e.name.local ≤ 8
    → IsShortAddress room.address → IsShortNick o.nick → row ≤ 18446744073709551618 → length (message_text room o row e) ≤ 300000
message-le room o row e small named host few low =
    choose (λ (y : Element). length (text (sent_by (address_text (at room.address (Some o.nick))) y)) ≤ 300000) (has_body e)
    (told_with_id room.address row e) (without_ids room.address e)
    (λ (_ : _). omega (
      arith,
      small,
      numbered-le room.address row e named host low,
      at-le room.address o.nick host few,
      length-text-sent-le (address_text (at room.address (Some o.nick))) (told_with_id room.address row e),
    ))
    (λ (_ : _). without-ids-le room o e small host few)

-- a subject has no body, and no id
pub subject-message-le : (room : Room) (o : Occupant) (row : ℕ) (e : Element) → length (text e) ≤ 196608 → IsShortAddress room.address
    → IsShortNick o.nick → is_subject e ≡ true → length (message_text room o row e) ≤ 300000
subject-message-le room o row e small host few is =
    by (has_child (codes "subject") e) (has_body e) (has_child (codes "thread") e) is
  where
    by : (a b c : Bool) → (a && not b && not c) ≡ true
        → length (text (sent_by (address_text (at room.address (Some o.nick)))
        (if b then told_with_id room.address row e else without_ids room.address e))) ≤ 300000
    by a false c is = without-ids-le room o e small host few
    by true true true is = absurd (true≢false (sym is))
    by true true false is = absurd (true≢false (sym is))
    by false true c is = absurd (true≢false (sym is))

pub private-le : (room : Room) (o : Occupant) (e : Element) → length (text e) ≤ 196608 → IsShortAddress room.address → IsShortNick o.nick
    → length (private_text room o e) ≤ 500000
private-le room o e small host few =
    omega (
      arith,
      marked-le e small,
      at-le room.address o.nick host few,
      length-text-sent-le (address_text (at room.address (Some o.nick))) (marked e),
    )

-- a subject

no-subject-le : (room : Address) → IsShortAddress room → length (text (no_subject room)) ≤ 300000
no-subject-le room host =
    let l : List Attr = plain_attr (codes "type") (codes "groupchat") ∷ [] in
    omega (
      arith,
      host,
      under-le client_space client_space (codes "message") (plain_attr (codes "from") (address_text room) ∷ l)
          (one_child (element_of client_space (codes "subject") [] [])),
      plain-attributes (codes "from") (address_text room) l,
      plain-attributes (codes "type") (codes "groupchat") [],
      ap length (plain-declared (codes "from") (address_text room) l),
      ap length (plain-declared (codes "type") (codes "groupchat") []),
      length-value_text-le (address_text room),
      length-value_text-le (codes "groupchat"),
      first-length client_space (element_of client_space (codes "subject") [] []) [],
      under-le client_space client_space (codes "subject") [] [],
    )

pub subject-le : (room : Address) (subject : Option Delayed) → IsShortAddress room → IfSome subject IsShortDelayed
    → length (subject_text room subject) ≤ 320000
subject-le room None host few = (let short = no-subject-le room host in omega (arith, short))
subject-le room (Some s) host few = delayed-le room s host few

-- lists of affiliations and of roles

listing-le : (items : List Element) → length (text_under client_space (listing items)) ≤ 400 + length (texts_under admin_space (map child_node items))
listing-le items = omega (arith, under-le client_space admin_space (codes "query") [] (map child_node items))

affiliated-le : (a : Affiliation) (known : List Affiliated)
    → length (texts_under admin_space (map child_node (affiliation_items a known))) ≤ sum (map counted known)
affiliated-le a [] = omega arith
affiliated-le a (x ∷ known) =
    let rest : List Affiliated = filter (λ y. is_same_affiliation y.affiliation a) known in
    let later : length (texts_under admin_space (map child_node (map affiliation_item rest))) ≤ sum (map counted known) = affiliated-le a known in
    let one : counted x ≡ length (text_under admin_space (affiliation_item x)) = refl in
    let first : length (texts_under admin_space (map child_node (map affiliation_item (x ∷ rest))))
    ≡ length (text_under admin_space (affiliation_item x)) + length (texts_under admin_space (map child_node (map affiliation_item rest))) =
    first-length admin_space (affiliation_item x) (map child_node (map affiliation_item rest)) in
    choose (λ (l : List Affiliated). length (texts_under admin_space (map child_node (map affiliation_item l))) ≤ sum (map counted (x ∷ known)))
    (is_same_affiliation x.affiliation a) (x ∷ rest) rest
    (λ (_ : _). omega (arith, later, one, sum_by-cons (λ n. n) (counted x) (map counted known), first))
    (λ (_ : _). omega (arith, later, sum_by-cons (λ n. n) (counted x) (map counted known)))

fitting-step : (bytes : ℕ) (e : Element) (b : Bool) (rest : List Element) → (b ≡ true → length (text_under admin_space e) ≤ bytes)
    → length (texts_under admin_space (map child_node rest)) ≤ bytes - length (text_under admin_space e)
    → length (texts_under admin_space (map child_node (if b then e ∷ rest else []))) ≤ bytes
fitting-step bytes e true rest fits later = (let few = fits refl in omega (arith, few, later, first-length admin_space e (map child_node rest)))
fitting-step bytes e false rest fits later = omega arith

fitting-le : (bytes : ℕ) (es : List Element) → length (texts_under admin_space (map child_node (fitting bytes es))) ≤ bytes
fitting-le bytes [] = omega arith
fitting-le bytes (e ∷ more) =
    fitting-step bytes e (nat_le (length (text_under admin_space e)) bytes) (fitting (bytes - length (text_under admin_space e)) more)
    (λ is. leb-true (length (text_under admin_space e)) bytes is) (fitting-le (bytes - length (text_under admin_space e)) more)

answered-le : (st : Stanza) (items : List Element) → length (texts_under admin_space (map child_node items)) ≤ most_text
    → IfSome (to_in st) (λ a. length (address_text a) ≤ 3071) → spelt_length (id_in st) ≤ 196608
    → length (text (result_of st (one_child (listing items)))) ≤ 500000
answered-le st items few to id =
    reply-le st (codes "result") (one_child (listing items)) to id (omega arith)
    (omega (arith, few, listing-le items, first-length client_space (listing items) []))

pub affiliations-le : (st : Stanza) (a : Affiliation) (known : List Affiliated) → sum (map counted known) ≤ most_text
    → IfSome (to_in st) (λ a. length (address_text a) ≤ 3071) → spelt_length (id_in st) ≤ 196608
    → length (text (result_of st (one_child (listing (affiliation_items a known))))) ≤ 500000
affiliations-le st a known few to id = answered-le st (affiliation_items a known) (omega (arith, few, affiliated-le a known)) to id

pub roles-le : (st : Stanza) (room : Room) (role : Role)
    → IfSome (to_in st) (λ a. length (address_text a) ≤ 3071) → spelt_length (id_in st) ≤ 196608
    → length (text (result_of st (one_child (listing (occupants_in room role))))) ≤ 500000
roles-le st room role to id =
    answered-le st (occupants_in room role) (fitting-le most_text (role_items room role room.occupants)) to id

-- the form of a room's settings

flag-le : (b : Bool) → length (flag b) ≤ 256
flag-le true = omega arith
flag-le false = omega arith

whois-le : (b : Bool) → length (whois_name b) ≤ 256
whois-le true = omega arith
whois-le false = omega arith

value-short : (c : Config) (s : Setting) → length c.title ≤ 256 → length c.secret ≤ 256 → length (decimal c.max) ≤ 20 → length (value_of c s) ≤ 256
value-short c FormType title secret most = omega arith
value-short c Title title secret most = title
value-short c Persistent title secret most = flag-le c.persistent
value-short c MembersOnly title secret most = flag-le c.members_only
value-short c Moderated title secret most = flag-le c.moderated
value-short c ChangeSubject title secret most = flag-le c.change_subject
value-short c Whois title secret most = whois-le c.anyone
value-short c Guarded title secret most = flag-le (is_guarded c)
value-short c Secret title secret most = secret
value-short c Most title secret most = omega (arith, most)

words-length : (p words : List ℕ) → length (texts_under p (roll-Node (Words words) ∷ [])) ≤ 6 * length words
words-length p words =
    omega (
      arith,
      ap length (texts-words p (roll-Node (Words words)) [] words (out-roll-Node (Words words))),
      length-append (words_text words) (texts_under p []),
      length-words_text-le words,
    )

value-le : (value : List ℕ) → length value ≤ 256 → length (text_under form_space (value_element value)) ≤ 1800
value-le value few = omega (arith, few, under-le form_space form_space (codes "value") [] (roll-Node (Words value) ∷ []), words-length form_space value)

choice-le : (value : List ℕ) → length value ≤ 256 → length (text_under form_space (choice value)) ≤ 2000
choice-le value few =
    omega (
      arith,
      value-le value few,
      under-le form_space form_space (codes "option") [] (child_node (value_element value) ∷ []),
      first-length form_space (value_element value) [],
    )

choices-le : (s : Setting) → length (texts_under form_space (map choice_node (choices_of s))) ≤ 12000
choices-le Whois =
    omega (
      arith,
      first-length form_space (choice (codes "moderators")) (choice_node (codes "anyone") ∷ []),
      first-length form_space (choice (codes "anyone")) [],
      choice-le (codes "moderators") (omega arith),
      choice-le (codes "anyone") (omega arith),
    )
choices-le Most =
    let l5 : List Node = choice_node (codes "256") ∷ [] in
    let l4 : List Node = choice_node (codes "100") ∷ l5 in
    let l3 : List Node = choice_node (codes "50") ∷ l4 in
    let l2 : List Node = choice_node (codes "30") ∷ l3 in
    let l1 : List Node = choice_node (codes "20") ∷ l2 in
    omega (
      arith,
      first-length form_space (choice (codes "10")) l1,
      first-length form_space (choice (codes "20")) l2,
      first-length form_space (choice (codes "30")) l3,
      first-length form_space (choice (codes "50")) l4,
      first-length form_space (choice (codes "100")) l5,
      first-length form_space (choice (codes "256")) [],
      choice-le (codes "10") (omega arith),
      choice-le (codes "20") (omega arith),
      choice-le (codes "30") (omega arith),
      choice-le (codes "50") (omega arith),
      choice-le (codes "100") (omega arith),
      choice-le (codes "256") (omega arith),
    )
choices-le FormType = omega arith
choices-le Title = omega arith
choices-le Persistent = omega arith
choices-le MembersOnly = omega arith
choices-le Moderated = omega arith
choices-le ChangeSubject = omega arith
choices-le Guarded = omega arith
choices-le Secret = omega arith

type-short : (s : Setting) → length (setting_type s) ≤ 20
type-short FormType = omega arith
type-short Title = omega arith
type-short Persistent = omega arith
type-short MembersOnly = omega arith
type-short Moderated = omega arith
type-short ChangeSubject = omega arith
type-short Whois = omega arith
type-short Guarded = omega arith
type-short Secret = omega arith
type-short Most = omega arith

name-short : (s : Setting) → length (setting_name s) ≤ 60
name-short FormType = omega arith
name-short Title = omega arith
name-short Persistent = omega arith
name-short MembersOnly = omega arith
name-short Moderated = omega arith
name-short ChangeSubject = omega arith
name-short Whois = omega arith
name-short Guarded = omega arith
name-short Secret = omega arith
name-short Most = omega arith

module _ (c : Config) (title : length c.title ≤ 256) (secret : length c.secret ≤ 256) (most : length (decimal c.max) ≤ 20) where
  field-le : (s : Setting) → length (text_under form_space (field_element c s)) ≤ 15000
  field-le s =
      let l : List Attr = plain_attr (codes "var") (setting_name s) ∷ [] in
      omega (
        arith,
        type-short s,
        name-short s,
        choices-le s,
        value-le (value_of c s) (value-short c s title secret most),
        under-le form_space form_space (codes "field") (plain_attr (codes "type") (setting_type s) ∷ l)
            (child_node (value_element (value_of c s)) ∷ map choice_node (choices_of s)),
        plain-attributes (codes "type") (setting_type s) l,
        plain-attributes (codes "var") (setting_name s) [],
        ap length (plain-declared (codes "type") (setting_type s) l),
        ap length (plain-declared (codes "var") (setting_name s) []),
        length-value_text-le (setting_type s),
        length-value_text-le (setting_name s),
        first-length form_space (value_element (value_of c s)) (map choice_node (choices_of s)),
      )

  fields-le : (ss : List Setting) → length (texts_under form_space (map (field_node c) ss)) ≤ 15000 * length ss
  fields-le [] = omega arith
  fields-le (s ∷ ss) = omega (arith, field-le s, fields-le ss, first-length form_space (field_element c s) (map (field_node c) ss))

  pub form-le : (st : Stanza) → IfSome (to_in st) (λ a. length (address_text a) ≤ 3071) → spelt_length (id_in st) ≤ 196608
      → length (text (result_of st (one_child (form_query c)))) ≤ 500000
  form-le st to id =
      reply-le st (codes "result") (one_child (form_query c)) to id (omega arith)
      (omega (
        arith,
        first-length client_space (form_query c) [],
        under-le client_space owner_space (codes "query") [] (one_child (config_form c)),
        first-length owner_space (config_form c) [],
        one-attribute-le owner_space form_space (codes "x") (codes "type") (codes "form")
            (map (field_node c) (FormType ∷ Title ∷ Persistent ∷ MembersOnly ∷ Moderated ∷ ChangeSubject ∷ Whois ∷ Guarded ∷ Secret ∷ Most ∷ [])),
        fields-le (FormType ∷ Title ∷ Persistent ∷ MembersOnly ∷ Moderated ∷ ChangeSubject ∷ Whois ∷ Guarded ∷ Secret ∷ Most ∷ []),
      ))

-- invitations

abbrev pub IsShortReason : Option Element → Type 0
IsShortReason reason = IfSome reason (λ r. length (text_under user_space r) ≤ 400000)

reason-le : (reason : Option Element) → IsShortReason reason → length (texts_under user_space (reason_nodes reason)) ≤ 400000
reason-le None few = omega arith
reason-le (Some r) few = omega (arith, few, first-length user_space r [])

call-le : (local : List ℕ) (who : Here) (reason : Option Element) → length local ≤ 10 → length (address_text (bare who.address)) ≤ 3071 → IsShortReason reason
    → length (text_under user_space (call_element local who reason)) ≤ 420000
call-le local who reason name short few =
    omega (
      arith,
      name,
      short,
      reason-le reason few,
      one-attribute-le user_space user_space local (codes "from") (address_text (bare who.address)) (reason_nodes reason),
    )

password-le : (secret : List ℕ) → length secret ≤ 256 → length (texts_under user_space (password_nodes secret)) ≤ 2000
password-le secret few =
    choose (λ (l : List Node). length (texts_under user_space l) ≤ 2000) (length secret == 0) [] (child_node (password_element secret) ∷ [])
    (λ (_ : _). omega arith)
    (λ (_ : _). omega (
      arith,
      few,
      first-length user_space (password_element secret) [],
      under-le user_space user_space (codes "password") [] (roll-Node (Words secret) ∷ []),
      words-length user_space secret,
    ))

message-with-le : (room : Address) (nodes : List Node) → IsShortAddress room → length (texts_under user_space nodes) ≤ 430000
    → length (text (message_with room nodes)) ≤ 500000
message-with-le room nodes host few =
    omega (
      arith,
      host,
      few,
      one-attribute-le client_space client_space (codes "message") (codes "from") (address_text room) (one_child (x_of nodes)),
      first-length client_space (x_of nodes) [],
      under-le client_space user_space (codes "x") [] nodes,
    )

pub invited-le : (room : Room) (who : Here) (reason : Option Element) → IsShortAddress room.address → length room.config.secret ≤ 256
    → length (address_text (bare who.address)) ≤ 3071 → IsShortReason reason
    → length (text (message_with room.address (invite_nodes room who reason))) ≤ 500000
invited-le room who reason host secret short few =
    message-with-le room.address (invite_nodes room who reason) host
    (omega (
      arith,
      call-le (codes "invite") who reason (omega arith) short few,
      password-le room.config.secret secret,
      first-length user_space (call_element (codes "invite") who reason) (password_nodes room.config.secret),
    ))

pub declined-le : (room : Room) (who : Here) (reason : Option Element) → IsShortAddress room.address
    → length (address_text (bare who.address)) ≤ 3071 → IsShortReason reason
    → length (text (message_with room.address (decline_nodes who reason))) ≤ 500000
declined-le room who reason host short few =
    message-with-le room.address (decline_nodes who reason) host
    (omega (
      arith,
      call-le (codes "decline") who reason (omega arith) short few,
      first-length user_space (call_element (codes "decline") who reason) [],
    ))
