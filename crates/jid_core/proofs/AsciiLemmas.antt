-- A part in ASCII is prepared as the short rules say.
use Rattle.std.proofs.Common.{◌≡◌, ℕ, ◌-◌, ◌<◌, Bool, true, false, cond, not, ◌&&◌, ◌||◌, ◌==◌, List, [], ◌∷◌, map, length}
use Rattle.std.proofs.Common.{get_or, chars, encode_utf8_all, Some, IsAscii, refl, sym, ap, ◌∙◌, arith}
use Rattle.std.proofs.lemmas.Bool.{and_parts, and_from}
use Rattle.std.proofs.lemmas.Bool.Decides.{nat_tests}
use Rattle.std.proofs.Math.ListN.{get_or-map}
use Rattle.std.proofs.lemmas.List.{length-map}
use Rattle.std.proofs.lemmas.List.Elements.{All-map}
use Rattle.std.proofs.lemmas.List.Folds.{list_all-map}
use Rattle.std.proofs.lemmas.List.Splits.{length-slice_split}
use Rattle.std.proofs.lemmas.List.Sums.{AllPass-from_list_all}
use Rattle.std.proofs.lemmas.Str.{IsUtf8-from_ascii, is_utf8-from_IsUtf8, chars-IsAscii, encodes-IsAscii}
use Rattle.std.proofs.lemmas.Str.Ascii.{IsAscii-from_all, All-from_ascii, IsAscii-map, lowercase_ascii}
use Rattle.std.specs.Char.{to_ascii_lowercase, is_ascii_uppercase}
use Rattle.std.specs.Int.{is_in_range}
use Rattle.std.specs.List.{list_all, slice_index, slice_split, onto_first}
use Rattle.std.specs.Str.{str_to_ascii_lowercase, is_utf8}
use Rattle.unicode_normalization.specs.Forms.{Nfc, nfc, is_nfc}
use Rattle.unicode_normalization.proofs.FormsLemmas.{is_in_form_from, normalize-ascii}
use Rattle.idna.specs.declared.deny_list.TheConstants.AsciiDenyList.{STD3}
use Rattle.idna.specs.declared.options.Hyphens.TheVariants.{Check}
use Rattle.idna.specs.declared.options.DnsLength.TheVariants.{Ignore}
use Rattle.idna.specs.AsciiDenyList.{may_be_denied}
use Rattle.idna.specs.Display.{IsPlain}
use Rattle.idna.specs.Labels.{labels_of}
use Rattle.idna.specs.Validity.{passes_hyphens, is_valid_char}
use Rattle.idna.proofs.Uts46Lemmas.{to_ascii-plain, to_ascii-map-lowercase}
use Rattle.idna.proofs.ValidityLemmas.{denies-STD3, is_valid_char-ascii}
use Rattle.jid_core.specs.declared.fault.Which.{Which}
use Rattle.jid_core.specs.declared.fault.Which.TheVariants.{Local, Resource}
use Rattle.jid_core.specs.Preparation.{is_refused, is_fit, has_labels, ascii_form, in_nfc}
use Rattle.jid_core.specs.AsciiParts.{is_resource_byte, is_local_byte, is_label_byte, is_label, are_labels}

-- a weaker test of each element
pub weaker : {X : Type 0} (p q : X → Bool) → ((x : X) → p x ≡ true → q x ≡ true) → (xs : List X) → list_all p xs ≡ true → list_all q xs ≡ true
weaker p q step [] all = refl
weaker p q step (x ∷ xs) all = let h = and_parts (p x) (list_all p xs) all in and_from (q x) (list_all q xs) (step x h.0) (weaker p q step xs h.1)

resource-low : (b : ℕ) → is_resource_byte b ≡ true → b < 128
resource-low b h = grind (arith, nat_tests)

pub all-low : (bs : List ℕ) → list_all is_resource_byte bs ≡ true → IsAscii bs
all-low bs all = IsAscii-from_all bs (λ k d lt. resource-low (get_or bs k d) (AllPass-from_list_all is_resource_byte bs all k d lt))

resource-byte : (b : ℕ) → is_resource_byte b ≡ true → not (is_refused Resource b) ≡ true
resource-byte b h = grind (arith, nat_tests)

local-byte : (b : ℕ) → is_local_byte b ≡ true → not (is_refused Local b) ≡ true
local-byte b h = grind (arith, nat_tests)

local-resource : (b : ℕ) → is_local_byte b ≡ true → is_resource_byte b ≡ true
local-resource b h = (and_parts (is_resource_byte b) _ h).0

pub all-resource : (bs : List ℕ) → list_all is_local_byte bs ≡ true → list_all is_resource_byte bs ≡ true
all-resource bs all = weaker is_local_byte is_resource_byte local-resource bs all

fit-ascii : (which : Which) (bs : List ℕ) → IsAscii bs → list_all (λ c. not (is_refused which c)) bs ≡ true → is_fit which bs ≡ true
fit-ascii which bs low all =
    and_from (is_utf8 bs) _ (is_utf8-from_IsUtf8 bs (IsUtf8-from_ascii bs low)) (ap (list_all (λ c. not (is_refused which c))) (chars-IsAscii bs low) ∙ all)

pub is_fit-resource : (bs : List ℕ) → list_all is_resource_byte bs ≡ true → is_fit Resource bs ≡ true
is_fit-resource bs all = fit-ascii Resource bs (all-low bs all) (weaker is_resource_byte _ resource-byte bs all)

pub is_fit-local : (bs : List ℕ) → list_all is_local_byte bs ≡ true → is_fit Local bs ≡ true
is_fit-local bs all = fit-ascii Local bs (all-low bs (all-resource bs all)) (weaker is_local_byte _ local-byte bs all)

pub is_nfc-ascii : (bs : List ℕ) → IsAscii bs → is_nfc (chars bs) ≡ true
is_nfc-ascii bs low = ap is_nfc (chars-IsAscii bs low) ∙ is_in_form_from Nfc bs (normalize-ascii Nfc bs (All-from_ascii bs low))

pub in_nfc-ascii : (bs : List ℕ) → IsAscii bs → in_nfc bs ≡ bs
in_nfc-ascii bs low =
    ap (λ cs. encode_utf8_all (nfc cs)) (chars-IsAscii bs low) ∙ ap encode_utf8_all (normalize-ascii Nfc bs (All-from_ascii bs low)) ∙ encodes-IsAscii bs low

pub IsAscii-lowered : (bs : List ℕ) → IsAscii bs → IsAscii (str_to_ascii_lowercase bs)
IsAscii-lowered bs low = IsAscii-map to_ascii_lowercase bs lowercase_ascii low

-- ---- domains

label-bytes : (part : List ℕ) → is_label part ≡ true → list_all is_label_byte part ≡ true
label-bytes part h = grind (arith, nat_tests)

-- one more byte in front of the labels
split-step : (dot : Bool) (x : ℕ) (parts : List (List ℕ)) → 0 < length parts
    → list_all (λ part. list_all is_label_byte part) (cond dot ([] ∷ parts) (onto_first x parts)) ≡ true
    → ((dot || is_label_byte x) ≡ true) × (list_all (λ part. list_all is_label_byte part) parts ≡ true)
split-step true x parts some all = (refl, all)
split-step false x [] some all = absurd (omega arith)
split-step false x (part ∷ parts) some all =
    let h = and_parts (is_label_byte x && list_all is_label_byte part) _ all in
    let k = and_parts (is_label_byte x) _ h.0 in
    (k.0, and_from (list_all is_label_byte part) _ k.1 h.1)

labels-bytes : (bs : List ℕ) → list_all (λ part. list_all is_label_byte part) (slice_split (λ b. b == 46) bs) ≡ true
    → list_all (λ b. (b == 46) || is_label_byte b) bs ≡ true
labels-bytes [] all = refl
labels-bytes (b ∷ bs) all =
    let h = split-step (b == 46) b (slice_split (λ x. x == 46) bs) (omega (arith, length-slice_split (λ x. x == 46) bs)) all in
    and_from ((b == 46) || is_label_byte b) _ h.0 (labels-bytes bs h.1)

name-bytes : (bs : List ℕ) → are_labels bs ≡ true → list_all (λ b. (b == 46) || is_label_byte b) bs ≡ true
name-bytes bs h = labels-bytes bs (weaker is_label (λ part. list_all is_label_byte part) label-bytes (labels_of bs) h)

name-low : (b : ℕ) → ((b == 46) || is_label_byte b) ≡ true → b < 128
name-low b h = grind (arith, nat_tests)

pub IsAscii-labels : (bs : List ℕ) → are_labels bs ≡ true → IsAscii bs
IsAscii-labels bs h = IsAscii-from_all bs
    (λ k d lt. name-low (get_or bs k d) (AllPass-from_list_all (λ b. (b == 46) || is_label_byte b) bs (name-bytes bs h) k d lt))

-- lowered labels are labels of the lowered name
onto-lowered : (dot : Bool) (b : ℕ) (parts : List (List ℕ))
    → cond dot ([] ∷ map str_to_ascii_lowercase parts) (onto_first (to_ascii_lowercase b) (map str_to_ascii_lowercase parts))
    ≡ map str_to_ascii_lowercase (cond dot ([] ∷ parts) (onto_first b parts))
onto-lowered true b parts = refl
onto-lowered false b [] = refl
onto-lowered false b (part ∷ parts) = refl

dot-lowered : (b : ℕ) → (to_ascii_lowercase b == 46) ≡ (b == 46)
dot-lowered b = grind (arith, nat_tests)

labels-lowered : (bs : List ℕ) → labels_of (str_to_ascii_lowercase bs) ≡ map str_to_ascii_lowercase (labels_of bs)
labels-lowered [] = refl
labels-lowered (b ∷ bs) =
    ap (λ dot. cond dot ([] ∷ labels_of (str_to_ascii_lowercase bs)) (onto_first (to_ascii_lowercase b) (labels_of (str_to_ascii_lowercase bs))))
    (dot-lowered b)
    ∙ ap (λ parts. cond (b == 46) ([] ∷ parts) (onto_first (to_ascii_lowercase b) parts)) (labels-lowered bs)
    ∙ onto-lowered (b == 46) b (labels_of bs)

all-lowered : (test : List ℕ → Bool) → ((part : List ℕ) → is_label part ≡ true → test (str_to_ascii_lowercase part) ≡ true) → (bs : List ℕ)
    → are_labels bs ≡ true → list_all test (labels_of (str_to_ascii_lowercase bs)) ≡ true
all-lowered test step bs h =
    ap (list_all test) (labels-lowered bs) ∙ list_all-map test str_to_ascii_lowercase (labels_of bs)
    ∙ weaker is_label (λ part. test (str_to_ascii_lowercase part)) step (labels_of bs) h

valid-byte : (b : ℕ) → ((b == 46) || is_label_byte b) ≡ true → (to_ascii_lowercase b < 128) × (is_valid_char STD3 (to_ascii_lowercase b) ≡ true)
valid-byte b h =
    let low : to_ascii_lowercase b < 128 = grind (arith, nat_tests) in
    let small : is_ascii_uppercase (to_ascii_lowercase b) ≡ false = grind (arith, nat_tests) in
    let kept : may_be_denied (to_ascii_lowercase b) ≡ false = grind (arith, nat_tests) in
    (low, rw (is_valid_char-ascii STD3 (to_ascii_lowercase b) low, small, denies-STD3 (to_ascii_lowercase b), kept))

hyphen-lowered : (b : ℕ) → (to_ascii_lowercase b == 45) ≡ (b == 45)
hyphen-lowered b = grind (arith, nat_tests)

-- lowering moves no hyphen
hyphen-at : (part : List ℕ) (i : ℕ) → (slice_index (str_to_ascii_lowercase part) i == 45) ≡ (slice_index part i == 45)
hyphen-at part i = ap (λ b. b == 45) (get_or-map to_ascii_lowercase part i 0) ∙ hyphen-lowered (slice_index part i)

label-placed : (part : List ℕ) → is_label part ≡ true → passes_hyphens Check (str_to_ascii_lowercase part) ≡ true
unfolding passes_hyphens
label-placed part h =
    let zero = hyphen-at part 0 in
    let two = hyphen-at part 2 in
    let three = hyphen-at part 3 in
    let last = ap (λ n. slice_index (str_to_ascii_lowercase part) (n - 1) == 45) (length-map part to_ascii_lowercase) ∙ hyphen-at part (length part - 1) in
    rw (zero, two, three, last) (grind (arith, nat_tests))

label-size : (part : List ℕ) → is_label part ≡ true → is_in_range 1 63 (length (str_to_ascii_lowercase part)) ≡ true
label-size part h = ap (is_in_range 1 63) (length-map part to_ascii_lowercase) ∙ sized
  where
    sized : is_in_range 1 63 (length part) ≡ true
    sized = grind (arith, nat_tests)

pub has_labels-ascii : (bs : List ℕ) → are_labels bs ≡ true → has_labels (str_to_ascii_lowercase bs) ≡ true
has_labels-ascii bs h = all-lowered (λ part. is_in_range 1 63 (length part)) label-size bs h

IsPlain-labels : (bs : List ℕ) → are_labels bs ≡ true → IsPlain STD3 Check (str_to_ascii_lowercase bs)
IsPlain-labels bs h =
    record {
      valid = All-map (λ c. (c < 128) × (is_valid_char STD3 c ≡ true)) to_ascii_lowercase bs
          (λ k d lt. valid-byte (get_or bs k d) (AllPass-from_list_all (λ b. (b == 46) || is_label_byte b) bs (name-bytes bs h) k d lt));
      placed = all-lowered (passes_hyphens Check) label-placed bs h;
    }

pub ascii_form-ascii : (bs : List ℕ) → are_labels bs ≡ true → ascii_form bs ≡ Some (str_to_ascii_lowercase bs)
ascii_form-ascii bs h =
    sym (to_ascii-map-lowercase STD3 Check Ignore bs (IsAscii-labels bs h)) ∙ to_ascii-plain STD3 Check (str_to_ascii_lowercase bs) (IsPlain-labels bs h)
