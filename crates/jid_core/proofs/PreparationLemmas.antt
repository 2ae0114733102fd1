-- What preparation gives is prepared, what is prepared stays as it is, and each prepared part is a prepared resource and UTF-8.
use Rattle.std.proofs.Common.{◌≡◌, ℕ, ◌-◌, ◌<◌, ◌≤◌, Bool, true, false, cond, not, ◌&&◌, ◌||◌, ◌==◌, nat_lt, bytes_eq}
use Rattle.std.proofs.Common.{List, [], ◌∷◌, length, get_or, take, chars, encode_utf8_all, Option, Some, None, Ok, Err}
use Rattle.std.proofs.Common.{IsUtf8, IsTrue, ◌↔◌, refl, sym, ap, subst, ◌∙◌, arith}
use Rattle.std.proofs.Math.Utf8.{scalar}
use Rattle.std.proofs.lemmas.Bool.{cond-true, cond-false, and_parts, and_from, and_left, and_right, not-true, not_from_true}
use Rattle.std.proofs.lemmas.Bool.{not_from_false, ne_eqb, false_from_ne_true, ltb-true, ltb-false, lt-ltb, le-ltb, eqb-true}
use Rattle.std.proofs.lemmas.Bool.Decides.{nat_tests}
use Rattle.std.proofs.lemmas.List.{length-map, get_or_default}
use Rattle.std.proofs.lemmas.List.Folds.{list_all-map}
use Rattle.std.proofs.lemmas.List.Sums.{list_all-from_AllPass}
use Rattle.std.proofs.lemmas.Slice.Eq.{bytes_eq-Decides}
use Rattle.std.proofs.lemmas.Str.{IsUtf8-from_is_utf8, is_utf8-from_IsUtf8, encodes-chars, chars-encodes, scalars-chars, length-le-encodes, NoCharPasses-byte}
use Rattle.std.specs.Char.{to_ascii_lowercase, is_ascii_uppercase}
use Rattle.std.specs.Int.{is_in_range}
use Rattle.std.specs.List.{list_all, slice_index, onto_first}
use Rattle.std.specs.Option.{option_or, option_and_then}
use Rattle.std.specs.Str.{str_to_ascii_lowercase, is_utf8, all_scalars, NonePass, NoCharPasses}
use Rattle.unicode_normalization.specs.Forms.{Nfc, IsInForm, nfc, is_nfc}
use Rattle.unicode_normalization.proofs.FormsLemmas.{is_in_form_from, is_in_form-true, nfc_idem}
use Rattle.idna.specs.declared.deny_list.TheConstants.AsciiDenyList.{STD3}
use Rattle.idna.specs.declared.options.Hyphens.TheVariants.{Check}
use Rattle.idna.specs.declared.options.DnsLength.TheVariants.{Ignore}
use Rattle.idna.specs.AsciiDenyList.{may_be_denied}
use Rattle.idna.specs.Labels.{labels_of}
use Rattle.idna.specs.Uts46.{if_passes}
use Rattle.idna.proofs.Uts46Lemmas.{All-to_ascii, to_ascii_idem}
use Rattle.idna.proofs.ValidityLemmas.{denies-STD3}
use Rattle.jid_core.specs.declared.fault.Which.{Which}
use Rattle.jid_core.specs.declared.fault.Which.TheVariants.{Local, Domain, Resource}
use Rattle.jid_core.specs.declared.fault.JidFault.TheVariants.{Long}
use Rattle.jid_core.specs.Preparation.{is_refused, refused_at, has_size, is_fit, is_resource, is_local, has_labels, ascii_form}
use Rattle.jid_core.specs.Preparation.{gives, is_domain, unless_long, unless_bad, unless_nfc, unless_none, local_of, in_nfc}
use Rattle.jid_core.specs.Preparation.{resource_of, without_final_dot, in_labels, domain_of}
use Rattle.jid_core.specs.AsciiParts.{is_resource_byte, is_local_byte, are_labels}
use Rattle.jid_core.proofs.AsciiLemmas.{weaker, all-low, all-resource, is_fit-resource, is_fit-local, is_nfc-ascii}
use Rattle.jid_core.proofs.AsciiLemmas.{in_nfc-ascii, IsAscii-lowered, has_labels-ascii, ascii_form-ascii}
use Rattle.jid_core.proofs.FitLemmas.{is_fit-from_none, IsUtf8-is_fit, refused_at-fit}
use Rattle.jid_core.proofs.LoweringLemmas.{IsUtf8-lowered, chars-lowered, lowered-lowered}
use Rattle.jid_core.proofs.NfcLemmas.{is_plain_char, nfc-plain, nfc-some}

-- ---- sizes, and what the steps of preparation gave

size-here : (bs : List ℕ) → 0 < length bs → length bs < 1024 → has_size bs ≡ true
size-here bs low high = and_from _ _ (lt-ltb 0 (length bs) low) (lt-ltb (length bs) 1024 high)

pub size-parts : (bs : List ℕ) → has_size bs ≡ true → (0 < length bs) × (length bs < 1024)
size-parts bs h = let parts = and_parts (nat_lt 0 (length bs)) _ h in (ltb-true 0 (length bs) parts.0, ltb-true (length bs) 1024 parts.1)

long-parts : (which : Which) (bs p : List ℕ) → unless_long which bs ≡ Ok p → (bs ≡ p) × (length bs < 1024)
long-parts which bs p h = here (nat_lt 1023 (length bs)) refl h
  where
    here : (b : Bool) → nat_lt 1023 (length bs) ≡ b → cond b (Err (Long which)) (Ok bs) ≡ Ok p → (bs ≡ p) × (length bs < 1024)
    here true e k = absurd (cc)
    here false e k = (cc, omega (arith, ltb-false 1023 (length bs) e))

unless_long-short : (which : Which) (bs : List ℕ) → length bs < 1024 → unless_long which bs ≡ Ok bs
unless_long-short which bs short = cond-false _ _ _ (le-ltb 1023 (length bs) (omega arith))

unless_long-long : (which : Which) (bs : List ℕ) → 1023 < length bs → unless_long which bs ≡ Err (Long which)
unless_long-long which bs long = cond-true _ _ _ (lt-ltb 1023 (length bs) long)

length-lowered : (bs : List ℕ) → length (str_to_ascii_lowercase bs) ≡ length bs
length-lowered bs = length-map bs to_ascii_lowercase

bad-parts : (which : Which) (place : Option ℕ) (bs p : List ℕ) → unless_bad which place bs ≡ Ok p → (place ≡ None) × (unless_long which bs ≡ Ok p)
bad-parts which None bs p h = (refl, h)
bad-parts which (Some place) bs p h = absurd (cc)

or-parts : (a b : Option ℕ) → option_or a b ≡ None → (a ≡ None) × (b ≡ None)
or-parts None b h = (refl, h)
or-parts (Some x) b h = absurd (cc)

nfc-none : (bs : List ℕ) → IsUtf8 bs → unless_nfc bs ≡ None → is_nfc (chars bs) ≡ true
nfc-none bs text h = here (is_nfc (chars bs)) refl
    (sym (ap (λ u. cond {A = Option ℕ} (u && not (is_nfc (chars bs))) (Some 0) None) (is_utf8-from_IsUtf8 bs text)) ∙ h)
  where
    here : (b : Bool) → is_nfc (chars bs) ≡ b → cond {A = Option ℕ} (not b) (Some 0) None ≡ None → is_nfc (chars bs) ≡ true
    here true e k = e
    here false e k = absurd (cc)

nfc-passes : (bs : List ℕ) → is_nfc (chars bs) ≡ true → unless_nfc bs ≡ None
nfc-passes bs normal = cond-false _ _ _ (and_right (is_utf8 bs) _ (not_from_true _ normal))

-- what the look at the form told
pub nfc_of_text : (normal : Bool) (bs : List ℕ) → IsUtf8 bs → (IsTrue normal ↔ IsInForm Nfc (chars bs)) → not normal ≡ (is_utf8 bs && not (is_nfc (chars bs)))
nfc_of_text true bs text told = sym (and_right (is_utf8 bs) _ (not_from_true _ (is_in_form_from Nfc (chars bs) (told.0 refl))))
nfc_of_text false bs text told =
    sym (and_from (is_utf8 bs) _ (is_utf8-from_IsUtf8 bs text)
    (not_from_false _ (false_from_ne_true _ (λ t. let z : false ≡ true = told.1 (is_in_form-true Nfc (chars bs) t) in absurd (cc)))))

pub nfc_of_bytes : (bs : List ℕ) → ¬ IsUtf8 bs → false ≡ (is_utf8 bs && not (is_nfc (chars bs)))
nfc_of_bytes bs none = sym (and_left (is_utf8 bs) _ (false_from_ne_true _ (λ t. none (IsUtf8-from_is_utf8 bs t))))

-- ---- local parts

char-lowered : (c : ℕ) → not (is_refused Local c) ≡ true → not (is_refused Local (to_ascii_lowercase c)) ≡ true
char-lowered c h = grind (arith, nat_tests)

fit-lowered : (bs : List ℕ) → is_fit Local bs ≡ true → is_fit Local (str_to_ascii_lowercase bs) ≡ true
fit-lowered bs h =
    let text = IsUtf8-is_fit Local bs h in
    and_from (is_utf8 (str_to_ascii_lowercase bs)) _ (is_utf8-from_IsUtf8 _ (IsUtf8-lowered bs text))
    (ap (list_all (λ c. not (is_refused Local c))) (chars-lowered bs text) ∙ list_all-map (λ c. not (is_refused Local c)) to_ascii_lowercase (chars bs)
    ∙ weaker (λ c. not (is_refused Local c)) (λ c. not (is_refused Local (to_ascii_lowercase c))) char-lowered (chars bs) (and_parts (is_utf8 bs) _ h).1)

record IsLocal (bs : List ℕ) : Type 0 where
  size : has_size bs ≡ true
  fit : is_fit Local bs ≡ true
  lower : str_to_ascii_lowercase bs ≡ bs
  normal : is_nfc (chars bs) ≡ true

IsLocal-is_local : (bs : List ℕ) → is_local bs ≡ true → IsLocal bs
unfolding is_local
IsLocal-is_local bs h =
    let three = and_parts _ (is_nfc (chars bs)) h in
    let two = and_parts _ (bytes_eq (str_to_ascii_lowercase bs) bs) three.0 in
    let one = and_parts (has_size bs) _ two.0 in
    record { size = one.0; fit = one.1; lower = (bytes_eq-Decides (str_to_ascii_lowercase bs) bs).0 two.1; normal = three.1 }

is_local-IsLocal : (bs : List ℕ) → IsLocal bs → is_local bs ≡ true
unfolding is_local
is_local-IsLocal bs l =
    and_from _ _ (and_from _ _ (and_from _ _ l.size l.fit) ((bytes_eq-Decides (str_to_ascii_lowercase bs) bs).1 l.lower)) l.normal

pub is_local-local_of : (bs p : List ℕ) → local_of bs ≡ Ok p → is_local p ≡ true
is_local-local_of [] p h = absurd (cc)
is_local-local_of (b ∷ more) p h =
    let lower = str_to_ascii_lowercase (b ∷ more) in
    let bad = bad-parts Local (option_or (unless_nfc lower) (refused_at Local (b ∷ more))) lower p h in
    let none = or-parts (unless_nfc lower) (refused_at Local (b ∷ more)) bad.0 in
    let fit = is_fit-from_none Local (b ∷ more) none.1 in
    let long = long-parts Local lower p bad.1 in
    subst (λ x. is_local x ≡ true) long.0
    (is_local-IsLocal lower
    (record {
      size = size-here lower (omega arith) long.1;
      fit = fit-lowered (b ∷ more) fit;
      lower = lowered-lowered (b ∷ more);
      normal = nfc-none lower (IsUtf8-lowered (b ∷ more) (IsUtf8-is_fit Local (b ∷ more) fit)) none.0;
    }))

local-steps : (bs : List ℕ) → 0 < length bs → refused_at Local bs ≡ None → is_nfc (chars (str_to_ascii_lowercase bs)) ≡ true
    → local_of bs ≡ unless_long Local (str_to_ascii_lowercase bs)
local-steps [] some none normal = absurd (omega arith)
local-steps (b ∷ more) some none normal =
    let lower = str_to_ascii_lowercase (b ∷ more) in
    ap (λ o. unless_bad Local o lower) (ap (λ o. option_or o (refused_at Local (b ∷ more))) (nfc-passes lower normal) ∙ none)

pub local_stays : (p : List ℕ) → is_local p ≡ true → local_of p ≡ Ok p
local_stays p h =
    let l = IsLocal-is_local p h in
    let size = size-parts p l.size in
    local-steps p size.0 (refused_at-fit Local p l.fit) (ap (λ x. is_nfc (chars x)) l.lower ∙ l.normal)
    ∙ ap (unless_long Local) l.lower ∙ unless_long-short Local p size.1

local-ascii : (bs : List ℕ) → 0 < length bs → list_all is_local_byte bs ≡ true → local_of bs ≡ unless_long Local (str_to_ascii_lowercase bs)
local-ascii bs some all =
    local-steps bs some (refused_at-fit Local bs (is_fit-local bs all)) (is_nfc-ascii _ (IsAscii-lowered bs (all-low bs (all-resource bs all))))

pub local_of_short : (bs : List ℕ) → 0 < length bs → list_all is_local_byte bs ≡ true → length bs < 1024 → local_of bs ≡ Ok (str_to_ascii_lowercase bs)
local_of_short bs some all short = local-ascii bs some all ∙ unless_long-short Local _ (omega (arith, length-lowered bs))

pub local_of_long : (bs : List ℕ) → 0 < length bs → list_all is_local_byte bs ≡ true → 1023 < length bs → local_of bs ≡ Err (Long Local)
local_of_long bs some all long = local-ascii bs some all ∙ unless_long-long Local _ (omega (arith, length-lowered bs))

-- ---- resources

record IsResource (bs : List ℕ) : Type 0 where
  size : has_size bs ≡ true
  fit : is_fit Resource bs ≡ true
  normal : is_nfc (chars bs) ≡ true

IsResource-is_resource : (bs : List ℕ) → is_resource bs ≡ true → IsResource bs
unfolding is_resource
IsResource-is_resource bs h =
    let two = and_parts _ (is_nfc (chars bs)) h in
    let one = and_parts (has_size bs) _ two.0 in
    record { size = one.0; fit = one.1; normal = two.1 }

is_resource-IsResource : (bs : List ℕ) → IsResource bs → is_resource bs ≡ true
unfolding is_resource
is_resource-IsResource bs r = and_from _ _ (and_from _ _ r.size r.fit) r.normal

pub IsUtf8-from_resource : (bs : List ℕ) → is_resource bs ≡ true → IsUtf8 bs
IsUtf8-from_resource bs h = IsUtf8-is_fit Resource bs (IsResource-is_resource bs h).fit

plain-from : (c : ℕ) → scalar c ≡ true → not (is_refused Resource c) ≡ true → is_plain_char c ≡ true
plain-from c s h = grind (arith, nat_tests)

scalar-plain : (c : ℕ) → is_plain_char c ≡ true → scalar c ≡ true
scalar-plain c h = grind (arith, nat_tests)

unrefused-plain : (c : ℕ) → is_plain_char c ≡ true → not (is_refused Resource c) ≡ true
unrefused-plain c h = grind (arith, nat_tests)

all-plain : (cs : List ℕ) → all_scalars cs ≡ true → list_all (λ c. not (is_refused Resource c)) cs ≡ true → list_all is_plain_char cs ≡ true
all-plain [] s h = refl
all-plain (c ∷ cs) s h =
    let one = and_parts (scalar c) _ s in
    let two = and_parts (not (is_refused Resource c)) _ h in
    and_from (is_plain_char c) _ (plain-from c one.0 two.0) (all-plain cs one.1 two.1)

scalars-plain : (cs : List ℕ) → list_all is_plain_char cs ≡ true → all_scalars cs ≡ true
scalars-plain [] h = refl
scalars-plain (c ∷ cs) h = let parts = and_parts (is_plain_char c) _ h in and_from (scalar c) _ (scalar-plain c parts.0) (scalars-plain cs parts.1)

some-chars : (cs : List ℕ) → 1 ≤ length cs → 1 ≤ length (nfc cs)
some-chars [] some = absurd (omega arith)
some-chars (c ∷ cs) some = nfc-some c cs

some-from : (cs bs : List ℕ) → encode_utf8_all cs ≡ bs → 1 ≤ length bs → 1 ≤ length cs
some-from [] bs e some = absurd (omega (arith, ap length e))
some-from (c ∷ cs) bs e some = omega arith

-- a fit part in Normalization Form C
normal-part : (bs : List ℕ) → 0 < length bs → is_fit Resource bs ≡ true → length (in_nfc bs) < 1024 → IsResource (in_nfc bs)
normal-part bs some fit short =
    let text = IsUtf8-is_fit Resource bs fit in
    let plain = nfc-plain (chars bs) (all-plain (chars bs) (scalars-chars bs text) (and_parts (is_utf8 bs) _ fit).1) in
    let scalars = scalars-plain (nfc (chars bs)) plain in
    let same : chars (in_nfc bs) ≡ nfc (chars bs) = chars-encodes (nfc (chars bs)) scalars in
    record {
      size = size-here (in_nfc bs)
          (omega (arith, length-le-encodes (nfc (chars bs)), some-chars (chars bs) (some-from (chars bs) bs (encodes-chars bs text) some))) short;
      fit = and_from (is_utf8 (in_nfc bs)) _ (is_utf8-from_IsUtf8 (in_nfc bs) (nfc (chars bs), (scalars, refl)))
          (ap (list_all (λ c. not (is_refused Resource c))) same
          ∙ weaker is_plain_char (λ c. not (is_refused Resource c)) unrefused-plain (nfc (chars bs)) plain);
      normal = ap is_nfc same ∙ is_in_form_from Nfc (nfc (chars bs)) (nfc_idem (chars bs));
    }

pub is_resource-resource_of : (bs p : List ℕ) → resource_of bs ≡ Ok p → is_resource p ≡ true
is_resource-resource_of [] p h = absurd (cc)
is_resource-resource_of (b ∷ more) p h =
    let bad = bad-parts Resource (refused_at Resource (b ∷ more)) (in_nfc (b ∷ more)) p h in
    let long = long-parts Resource (in_nfc (b ∷ more)) p bad.1 in
    subst (λ x. is_resource x ≡ true) long.0
    (is_resource-IsResource (in_nfc (b ∷ more)) (normal-part (b ∷ more) (omega arith) (is_fit-from_none Resource (b ∷ more) bad.0) long.1))

resource-steps : (bs : List ℕ) → 0 < length bs → refused_at Resource bs ≡ None → resource_of bs ≡ unless_long Resource (in_nfc bs)
resource-steps [] some none = absurd (omega arith)
resource-steps (b ∷ more) some none = ap (λ o. unless_bad Resource o (in_nfc (b ∷ more))) none

pub resource_stays : (p : List ℕ) → is_resource p ≡ true → resource_of p ≡ Ok p
resource_stays p h =
    let r = IsResource-is_resource p h in
    let size = size-parts p r.size in
    let same : in_nfc p ≡ p = ap encode_utf8_all (is_in_form-true Nfc (chars p) r.normal) ∙ encodes-chars p (IsUtf8-from_resource p h) in
    resource-steps p size.0 (refused_at-fit Resource p r.fit) ∙ ap (unless_long Resource) same ∙ unless_long-short Resource p size.1

resource-ascii : (bs : List ℕ) → 0 < length bs → list_all is_resource_byte bs ≡ true → resource_of bs ≡ unless_long Resource bs
resource-ascii bs some all =
    resource-steps bs some (refused_at-fit Resource bs (is_fit-resource bs all)) ∙ ap (unless_long Resource) (in_nfc-ascii bs (all-low bs all))

pub resource_of_short : (bs : List ℕ) → 0 < length bs → list_all is_resource_byte bs ≡ true → length bs < 1024 → resource_of bs ≡ Ok bs
resource_of_short bs some all short = resource-ascii bs some all ∙ unless_long-short Resource bs short

pub resource_of_long : (bs : List ℕ) → 0 < length bs → list_all is_resource_byte bs ≡ true → 1023 < length bs → resource_of bs ≡ Err (Long Resource)
resource_of_long bs some all long = resource-ascii bs some all ∙ unless_long-long Resource bs long

-- printable ASCII of the right size
pub is_resource-ascii : (bs : List ℕ) → has_size bs ≡ true → list_all is_resource_byte bs ≡ true → is_resource bs ≡ true
is_resource-ascii bs size all = is_resource-IsResource bs (record { size = size; fit = is_fit-resource bs all; normal = is_nfc-ascii bs (all-low bs all) })

local-char : (c : ℕ) → not (is_refused Local c) ≡ true → not (is_refused Resource c) ≡ true
local-char c h = grind (arith, nat_tests)

pub is_resource-from_local : (bs : List ℕ) → is_local bs ≡ true → is_resource bs ≡ true
is_resource-from_local bs h =
    let l = IsLocal-is_local bs h in
    let parts = and_parts (is_utf8 bs) _ l.fit in
    is_resource-IsResource bs
    (record {
      size = l.size;
      fit =
          and_from (is_utf8 bs) _ parts.0 (weaker (λ c. not (is_refused Local c)) (λ c. not (is_refused Resource c)) local-char (chars bs) parts.1);
      normal =
          l.normal;
    })

-- ---- domains

record IsDomain (bs : List ℕ) : Type 0 where
  size : has_size bs ≡ true
  labels : has_labels bs ≡ true
  same : ascii_form bs ≡ Some bs

gives-same : (o : Option (List ℕ)) (bs : List ℕ) → gives o bs ≡ true → o ≡ Some bs
gives-same None bs h = absurd (let z : false ≡ true = h in cc)
gives-same (Some other) bs h = ap Some ((bytes_eq-Decides other bs).0 h)

IsDomain-is_domain : (bs : List ℕ) → is_domain bs ≡ true → IsDomain bs
unfolding is_domain
IsDomain-is_domain bs h =
    let two = and_parts _ (gives (ascii_form bs) bs) h in
    let one = and_parts (has_size bs) _ two.0 in
    record { size = one.0; labels = one.1; same = gives-same (ascii_form bs) bs two.1 }

is_domain-IsDomain : (bs : List ℕ) → IsDomain bs → is_domain bs ≡ true
unfolding is_domain
is_domain-IsDomain bs d =
    and_from _ _ (and_from _ _ d.size d.labels) (ap (λ o. gives o bs) d.same ∙ (bytes_eq-Decides bs bs).1 refl)

passes-parts : (o : Option (List ℕ)) (name : List ℕ) → option_and_then (if_passes has_labels) o ≡ Some name → (o ≡ Some name) × (has_labels name ≡ true)
passes-parts None name h = absurd (cc)
passes-parts (Some other) name h = here (has_labels other) refl h
  where
    here : (b : Bool) → has_labels other ≡ b → cond b (Some other) None ≡ Some name → (Some other ≡ Some name) × (has_labels name ≡ true)
    here true e k = (k, ap has_labels (sym (same k)) ∙ e)
      where
        same : Some other ≡ Some name → other ≡ name
        same j = cc
    here false e k = absurd (cc)

none-parts : (o : Option (List ℕ)) (p : List ℕ) → unless_none o ≡ Ok p → (o ≡ Some p) × (length p < 1024)
none-parts None p h = absurd (cc)
none-parts (Some name) p h =
    let long = long-parts Domain name p h in (ap Some long.0, subst (λ x. length x < 1024) long.0 long.1)

some-labels : (bs : List ℕ) → has_labels bs ≡ true → 0 < length bs
some-labels [] h = absurd (let z : false ≡ true = h in cc)
some-labels (b ∷ bs) h = omega arith

pub is_domain-domain_of : (bs p : List ℕ) → domain_of bs ≡ Ok p → is_domain p ≡ true
is_domain-domain_of [] p h = absurd (cc)
is_domain-domain_of (b ∷ more) p h =
    let given = without_final_dot (b ∷ more) in
    let some = none-parts (in_labels given) p h in
    let passes = passes-parts (ascii_form given) p some.0 in
    is_domain-IsDomain p
    (record {
      size = size-here p (some-labels p passes.1) some.1;
      labels = passes.1;
      same = to_ascii_idem STD3 Check Ignore given p passes.0;
    })

-- the labels but for the first
tail_of : List (List ℕ) → List (List ℕ)
tail_of [] = []
tail_of (x ∷ xs) = xs

abbrev sized : List ℕ → Bool
sized label = is_in_range 1 63 (length label)

tail-fails : (dot : Bool) (b : ℕ) (parts : List (List ℕ)) → list_all sized (tail_of parts) ≡ false
    → list_all sized (tail_of (cond dot ([] ∷ parts) (onto_first b parts))) ≡ false
unfolding tail_of
tail-fails true b [] h = h
tail-fails true b (part ∷ parts) h = and_right (sized part) _ h
tail-fails false b [] h = h
tail-fails false b (part ∷ parts) h = h

-- a name that ends in a dot has an empty last label
last-fails : (b : ℕ) (bs : List ℕ) → slice_index (b ∷ bs) (length bs) ≡ 46 → list_all sized (tail_of (labels_of (b ∷ bs))) ≡ false
unfolding tail_of
last-fails b [] h = subst (λ x. list_all sized (tail_of (labels_of (x ∷ []))) ≡ false) (sym h) refl
last-fails b (c ∷ bs) h = tail-fails (b == 46) b (labels_of (c ∷ bs)) (last-fails c bs h)

tail-passes : (parts : List (List ℕ)) → list_all sized parts ≡ true → list_all sized (tail_of parts) ≡ true
unfolding tail_of
tail-passes [] h = h
tail-passes (part ∷ parts) h = (and_parts (sized part) _ h).1

keeps-last : (bs : List ℕ) → has_labels bs ≡ true → without_final_dot bs ≡ bs
keeps-last [] h = absurd (let z : false ≡ true = h in cc)
keeps-last (b ∷ bs) h =
    let at : length (b ∷ bs) - 1 ≡ length bs = omega arith in
    here (slice_index (b ∷ bs) (length (b ∷ bs) - 1) == 46) (ap (λ i. slice_index (b ∷ bs) i == 46) (sym at)) refl
  where
    here : (e : Bool) → (slice_index (b ∷ bs) (length bs) == 46) ≡ (slice_index (b ∷ bs) (length (b ∷ bs) - 1) == 46)
        → (slice_index (b ∷ bs) (length (b ∷ bs) - 1) == 46) ≡ e → without_final_dot (b ∷ bs) ≡ (b ∷ bs)
    here true at e = absurd (let z : true ≡ false = sym (tail-passes (labels_of (b ∷ bs)) h) ∙ last-fails b bs (eqb-true _ 46 (at ∙ e)) in cc)
    here false at e = ap (λ c. cond c (take (length (b ∷ bs) - 1) (b ∷ bs)) (b ∷ bs)) e

pub domain_of-some : (bs : List ℕ) → 0 < length bs → domain_of bs ≡ unless_none (in_labels (without_final_dot bs))
domain_of-some [] some = absurd (omega arith)
domain_of-some (b ∷ more) some = refl

domain-steps : (bs name : List ℕ) → 0 < length bs → ascii_form (without_final_dot bs) ≡ Some name → has_labels name ≡ true
    → domain_of bs ≡ unless_long Domain name
domain-steps bs name some form labels =
    domain_of-some bs some ∙ ap (λ o. unless_none (option_and_then (if_passes has_labels) o)) form ∙ ap unless_none (cond-true _ _ _ labels)

pub domain_stays : (p : List ℕ) → is_domain p ≡ true → domain_of p ≡ Ok p
domain_stays p h =
    let d = IsDomain-is_domain p h in
    let size = size-parts p d.size in
    domain-steps p p size.0 (ap ascii_form (keeps-last p d.labels) ∙ d.same) d.labels ∙ unless_long-short Domain p size.1

domain-ascii : (bs : List ℕ) → 0 < length bs → are_labels (without_final_dot bs) ≡ true
    → domain_of bs ≡ unless_long Domain (str_to_ascii_lowercase (without_final_dot bs))
domain-ascii bs some labels =
    let given = without_final_dot bs in
    domain-steps bs (str_to_ascii_lowercase given) some (ascii_form-ascii given labels) (has_labels-ascii given labels)

pub domain_of_short : (bs : List ℕ) → 0 < length bs → are_labels (without_final_dot bs) ≡ true → length (without_final_dot bs) < 1024
    → domain_of bs ≡ Ok (str_to_ascii_lowercase (without_final_dot bs))
domain_of_short bs some labels short = domain-ascii bs some labels ∙ unless_long-short Domain _ (omega (arith, length-lowered (without_final_dot bs)))

pub domain_of_long : (bs : List ℕ) → 0 < length bs → are_labels (without_final_dot bs) ≡ true → 1023 < length (without_final_dot bs)
    → domain_of bs ≡ Err (Long Domain)
domain_of_long bs some labels long = domain-ascii bs some labels ∙ unless_long-long Domain _ (omega (arith, length-lowered (without_final_dot bs)))

-- a small letter, a digit, a hyphen or a dot
abbrev pub is_name_byte : ℕ → Bool
is_name_byte b = is_in_range 97 122 b || is_in_range 48 57 b || is_in_range 45 46 b

name-byte : (b : ℕ) → b < 128 → is_ascii_uppercase b ≡ false → may_be_denied b ≡ false → is_name_byte b ≡ true
name-byte b low small kept = grind (arith, nat_tests)

pub domain-bytes : (bs : List ℕ) → is_domain bs ≡ true → list_all is_name_byte bs ≡ true
domain-bytes bs h =
    let out = All-to_ascii STD3 Check Ignore bs bs (IsDomain-is_domain bs h).same in
    list_all-from_AllPass is_name_byte bs
    (λ k d lt. name-byte (get_or bs k d) (out k d lt).ascii (out k d lt).lower (sym (denies-STD3 (get_or bs k d)) ∙ (out k d lt).allowed))

name-resource : (b : ℕ) → is_name_byte b ≡ true → is_resource_byte b ≡ true
name-resource b h = grind (arith, nat_tests)

pub is_resource-from_domain : (bs : List ℕ) → is_domain bs ≡ true → is_resource bs ≡ true
is_resource-from_domain bs h =
    is_resource-ascii bs (IsDomain-is_domain bs h).size (weaker is_name_byte is_resource_byte name-resource bs (domain-bytes bs h))

-- ---- what every part has

pub size-resource : (bs : List ℕ) → is_resource bs ≡ true → (0 < length bs) × (length bs < 1024)
size-resource bs h = size-parts bs (IsResource-is_resource bs h).size

none-pass : (p : ℕ → Bool) (cs : List ℕ) → list_all (λ c. not (p c)) cs ≡ true → NonePass p cs
none-pass p [] h = tt
none-pass p (c ∷ cs) h = let parts = and_parts (not (p c)) _ h in (not-true (p c) parts.0, none-pass p cs parts.1)

-- a fit part has no byte of ASCII that is refused
pub fit_lacks : (which : Which) (c : ℕ) (bs : List ℕ) → c < 128 → is_refused which c ≡ true → is_fit which bs ≡ true → list_all (λ b. not (b == c)) bs ≡ true
fit_lacks which c bs low bad fit =
    let text : NoCharPasses (is_refused which) bs =
    (chars bs, encodes-chars bs (IsUtf8-is_fit which bs fit), none-pass (is_refused which) (chars bs) (and_parts (is_utf8 bs) _ fit).1) in
    list_all-from_AllPass (λ b. not (b == c)) bs (λ k d lt. not_from_false _ (ne_eqb (get_or bs k d) c (λ same.
    let zero-too : get_or bs k 0 ≡ c = get_or_default bs k 0 d lt ∙ same in
    let z : true ≡ false = sym bad ∙ ap (is_refused which) (sym zero-too) ∙ NoCharPasses-byte (is_refused which) bs k text lt (omega arith) in
    absurd (cc))))

-- a prepared local part has no byte that is refused in one
pub local_lacks : (c : ℕ) (bs : List ℕ) → c < 128 → is_refused Local c ≡ true → is_local bs ≡ true → list_all (λ b. not (b == c)) bs ≡ true
local_lacks c bs low bad h = fit_lacks Local c bs low bad (IsLocal-is_local bs h).fit

pub resource_lacks : (c : ℕ) (bs : List ℕ) → c < 128 → is_refused Resource c ≡ true → is_resource bs ≡ true → list_all (λ b. not (b == c)) bs ≡ true
resource_lacks c bs low bad h = fit_lacks Resource c bs low bad (IsResource-is_resource bs h).fit
