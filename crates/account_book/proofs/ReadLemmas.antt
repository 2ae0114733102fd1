-- A line that is read as an account is the account's line.
use Rattle.std.proofs.Common.{◌≡◌, ℕ, suc, ◌+◌, ◌<◌, nat_le, List, [], ◌∷◌, ◌++◌, length, get_or, Bool, true, false, ◌&&◌, if◌then◌else◌}
use Rattle.std.proofs.Common.{bytes_eq, Option, Some, None, is_some, Result, Ok, Err, arith, refl, sym, ap, subst, ◌∙◌}
use Rattle.std.proofs.lemmas.Bool.{leb-true, leb-false}
use Rattle.std.proofs.lemmas.Option.{cond_some}
use Rattle.std.proofs.lemmas.List.{get_or_append_left, get_or-append-add, get_or_past}
use Rattle.std.proofs.lemmas.Slice.Eq.{bytes_eq-Decides}
use Rattle.std.specs.Fmt.{decimal}
use Rattle.std.specs.Result.{result_ok}
use Rattle.base64.specs.Engines.{standard}
use Rattle.base64.specs.GeneralPurpose.{IsBytes, decode_of}
use Rattle.base64.specs.declared.decode.DecodeError.{DecodeError}
use Rattle.base64.proofs.EngineFacts.{decode_of_strict}
use Rattle.jid_core.specs.Cuts.{before, after}
use Rattle.jid_core.specs.Preparation.{local_of}
use Rattle.jid_core.specs.declared.fault.JidFault.{JidFault}
use Rattle.scram_core.specs.Login.{base64_of}
use Rattle.account_book.specs.declared.fault.LineKind.{LineKind}
use Rattle.account_book.specs.declared.fault.LineKind.TheVariants as kind
use Rattle.account_book.specs.Entries.{Entry, line_text}
use Rattle.account_book.specs.Fields.{Texts, texts_in, fields_of, cut, on, as_written, name_in}
use Rattle.sm_resume.specs.Spelling.{number_of}
use Rattle.account_book.specs.Fields.{are_rounds, rounds_in, bytes_in, sized, key_in, salt_in}
use Rattle.account_book.specs.Lines.{need, entry_in, line_of}
use Rattle.sm_resume.proofs.Numbers.{number-spelt}
use Rattle.account_book.proofs.CutLemmas.{cut-joined, none-lacks}
use Rattle.account_book.proofs.WrittenLemmas.{seventh, sixth, fifth, fourth, third, second, spaced, spread, cut-at, reads}

some-same : {X : Type 0} (x y : X) → Some x ≡ Some y → x ≡ y
some-same x y h = cc

ok-same : {X Y : Type 0} (x y : X) → ◌≡◌ {A = Result X Y} (Ok x) (Ok y) → x ≡ y
ok-same x y h = cc

-- what was read of a text, and what came of it
on-found : {X Y : Type 0} (o : Option X) (more : X → Option Y) (y : Y) → on o more ≡ Some y → (x : X) × (o ≡ Some x) × (more x ≡ Some y)
on-found None more y h = absurd (cc)
on-found (Some x) more y h = (x, refl, h)

-- what a text was cut into
cut-found : {Y : Type 0} (c : ℕ) (text : List ℕ) (more : List ℕ → List ℕ → Option Y) (y : Y) → cut c text more ≡ Some y
    → (rest : List ℕ) × (text ≡ before c text ++ c ∷ rest) × (more (before c text) rest ≡ Some y)
cut-found c text more y h =
    let found = on-found (after c text) (more (before c text)) y h in
    (found.0, cut-joined c text found.0 found.1, found.2)

none-else : (x : Bool) (t f : Texts) → (if x then None else Some t) ≡ Some f → t ≡ f
none-else true t f h = absurd (cc)
none-else false t f h = some-same t f h

texts-found : (text : List ℕ) (f : Texts) → texts_in text ≡ Some f → text ≡ spaced f.name f.rounds f.salt f.stored1 f.server1 f.stored256 f.server256
texts-found text f h =
    let one = cut-found 32 text second f h in
    let n = before 32 text in
    let two = cut-found 32 one.0 (third n) f one.2 in
    let r = before 32 one.0 in
    let three = cut-found 32 two.0 (fourth n r) f two.2 in
    let s = before 32 two.0 in
    let four = cut-found 32 three.0 (fifth n r s) f three.2 in
    let a = before 32 three.0 in
    let five = cut-found 32 four.0 (sixth n r s a) f four.2 in
    let b = before 32 four.0 in
    let six = cut-found 32 five.0 (seventh n r s a b) f five.2 in
    let c = before 32 five.0 in
    let same = none-else (is_some (after 32 six.0)) (record { name = n; rounds = r; salt = s; stored1 = a; server1 = b; stored256 = c; server256 = six.0 }) f
    six.2 in
    one.1 ∙ ap (λ t. n ++ 32 ∷ t) (two.1 ∙ ap (λ t. r ++ 32 ∷ t) (three.1 ∙ ap (λ t. s ++ 32 ∷ t) (four.1 ∙ ap (λ t. a ++ 32 ∷ t)
    (five.1 ∙ ap (λ t. b ++ 32 ∷ t) six.1))))
    ∙ ap (λ (t : Texts). spaced t.name t.rounds t.salt t.stored1 t.server1 t.stored256 t.server256) same

-- what each option was, where an account was read
record AreRead (n : Option (List ℕ)) (r : Option ℕ) (s a b c d : Option (List ℕ)) (e : Entry) : Type 0 where
  name_is : n ≡ Some e.name
  rounds_is : r ≡ Some e.rounds
  salt_is : s ≡ Some e.salt
  stored1_is : a ≡ Some e.stored1
  server1_is : b ≡ Some e.server1
  stored256_is : c ≡ Some e.stored256
  server256_is : d ≡ Some e.server256

reads-found : (n : Option (List ℕ)) (r : Option ℕ) (s a b c d : Option (List ℕ)) (e : Entry) → reads n r s a b c d ≡ Ok e → AreRead n r s a b c d e
reads-found None r s a b c d e h = absurd (cc)
reads-found (Some n) None s a b c d e h = absurd (cc)
reads-found (Some n) (Some r) None a b c d e h = absurd (cc)
reads-found (Some n) (Some r) (Some s) None b c d e h = absurd (cc)
reads-found (Some n) (Some r) (Some s) (Some a) None c d e h = absurd (cc)
reads-found (Some n) (Some r) (Some s) (Some a) (Some b) None d e h = absurd (cc)
reads-found (Some n) (Some r) (Some s) (Some a) (Some b) (Some c) None e h = absurd (cc)
reads-found (Some n) (Some r) (Some s) (Some a) (Some b) (Some c) (Some d) e h =
    let same = ok-same {X = Entry} {Y = LineKind} (record { name = n; rounds = r; salt = s; stored1 = a; server1 = b; stored256 = c; server256 = d }) e h in
    record {
      name_is = ap (λ (x : Entry). Some x.name) same;
      rounds_is = ap (λ (x : Entry). Some x.rounds) same;
      salt_is = ap (λ (x : Entry). Some x.salt) same;
      stored1_is = ap (λ (x : Entry). Some x.stored1) same;
      server1_is = ap (λ (x : Entry). Some x.server1) same;
      stored256_is = ap (λ (x : Entry). Some x.stored256) same;
      server256_is = ap (λ (x : Entry). Some x.server256) same;
    }

need-found : {X Y : Type 0} (k : LineKind) (o : Option X) (more : X → Result Y LineKind) (y : Y) → need k o more ≡ Ok y
    → (x : X) × (o ≡ Some x) × (more x ≡ Ok y)
need-found k None more y h = absurd (cc)
need-found k (Some x) more y h = (x, refl, h)

-- What each field is written as.

name-spelt : (text name : List ℕ) → name_in text ≡ Some name → text ≡ name
name-spelt text name h = of (local_of text) h
  where
    of : (r : Result (List ℕ) JidFault) → as_written text r ≡ Some name → text ≡ name
    of (Err fault) g = absurd (cc)
    of (Ok part) g = let found = cond_some (bytes_eq part text) part name g in sym ((bytes_eq-Decides part text).0 found.0) ∙ found.1

rounds-spelt : (text : List ℕ) (n : ℕ) → rounds_in text ≡ Some n → text ≡ decimal n
rounds-spelt text n h =
    let found = on-found (number_of text) are_rounds n h in
    let small = cond_some (nat_le 4096 found.0 && nat_le found.0 1000000) found.0 n found.2 in
    sym (number-spelt text found.0 found.1).1 ∙ ap decimal small.1

decode-found : (r : Result (List ℕ) DecodeError) (bytes : List ℕ) → result_ok r ≡ Some bytes → r ≡ Ok bytes
decode-found (Ok x) bytes h = ap Ok (some-same x bytes h)
decode-found (Err e) bytes h = absurd (cc)

bytes-spelt : (text bytes : List ℕ) → IsBytes text → bytes_in text ≡ Some bytes → text ≡ base64_of bytes
unfolding bytes_in
bytes-spelt text bytes are h = decode_of_strict standard text bytes (refl, refl) are (decode-found (decode_of standard text) bytes h)

sized-spelt : (least most : ℕ) (text bytes : List ℕ) → IsBytes text → on (bytes_in text) (sized least most) ≡ Some bytes → text ≡ base64_of bytes
sized-spelt least most text bytes are h =
    let found = on-found (bytes_in text) (sized least most) bytes h in
    let same = cond_some (nat_le least (length found.0) && nat_le (length found.0) most) found.0 bytes found.2 in
    bytes-spelt text found.0 are found.1 ∙ ap base64_of same.1

-- Parts of bytes are bytes.

bytes-front : (xs ys : List ℕ) → IsBytes (xs ++ ys) → IsBytes xs
bytes-front xs ys h i = at (nat_le (length xs) i) refl
  where
    at : (b : Bool) → nat_le (length xs) i ≡ b → get_or xs i 0 < 256
    at true e = let past = get_or_past xs i 0 (leb-true (length xs) i e) in omega (arith, past)
    at false e = let same = get_or_append_left xs ys 0 i (leb-false (length xs) i e) in let l = h i in omega (arith, same, l)

bytes-back : (xs ys : List ℕ) → IsBytes (xs ++ ys) → IsBytes ys
bytes-back xs ys h i = let same = get_or-append-add xs ys i 0 in let l = h (length xs + i) in omega (arith, same, l)

bytes-after : (xs ys : List ℕ) (c : ℕ) → IsBytes (xs ++ c ∷ ys) → IsBytes ys
bytes-after xs ys c h i = bytes-back xs (c ∷ ys) h (suc i)

entry-spelt : (e : Entry) (n r s a b c d : List ℕ) → IsBytes (spaced n r s a b c d)
    → reads (name_in n) (rounds_in r) (salt_in s) (key_in 20 a) (key_in 20 b) (key_in 32 c) (key_in 32 d) ≡ Ok e
    → spaced n r s a b c d ≡ spaced e.name (decimal e.rounds) (base64_of e.salt) (base64_of e.stored1) (base64_of e.server1) (base64_of e.stored256)
    (base64_of e.server256)
entry-spelt e n r s a b c d are h =
    let is = reads-found (name_in n) (rounds_in r) (salt_in s) (key_in 20 a) (key_in 20 b) (key_in 32 c) (key_in 32 d) e h in
    let are1 = bytes-after n (r ++ 32 ∷ (s ++ 32 ∷ (a ++ 32 ∷ (b ++ 32 ∷ (c ++ 32 ∷ d))))) 32 are in
    let are2 = bytes-after r (s ++ 32 ∷ (a ++ 32 ∷ (b ++ 32 ∷ (c ++ 32 ∷ d)))) 32 are1 in
    let are3 = bytes-after s (a ++ 32 ∷ (b ++ 32 ∷ (c ++ 32 ∷ d))) 32 are2 in
    let are4 = bytes-after a (b ++ 32 ∷ (c ++ 32 ∷ d)) 32 are3 in
    let are5 = bytes-after b (c ++ 32 ∷ d) 32 are4 in
    let are6 = bytes-after c d 32 are5 in
    ap (λ x. spaced x r s a b c d) (name-spelt n e.name is.name_is)
    ∙ ap (λ x. spaced e.name x s a b c d) (rounds-spelt r e.rounds is.rounds_is)
    ∙ ap (λ x. spaced e.name (decimal e.rounds) x a b c d)
    (sized-spelt 8 64 s e.salt (bytes-front s (32 ∷ (a ++ 32 ∷ (b ++ 32 ∷ (c ++ 32 ∷ d)))) are2) is.salt_is)
    ∙ ap (λ x. spaced e.name (decimal e.rounds) (base64_of e.salt) x b c d)
    (sized-spelt 20 20 a e.stored1 (bytes-front a (32 ∷ (b ++ 32 ∷ (c ++ 32 ∷ d))) are3) is.stored1_is)
    ∙ ap (λ x. spaced e.name (decimal e.rounds) (base64_of e.salt) (base64_of e.stored1) x c d)
    (sized-spelt 20 20 b e.server1 (bytes-front b (32 ∷ (c ++ 32 ∷ d)) are4) is.server1_is)
    ∙ ap (λ x. spaced e.name (decimal e.rounds) (base64_of e.salt) (base64_of e.stored1) (base64_of e.server1) x d)
    (sized-spelt 32 32 c e.stored256 (bytes-front c (32 ∷ d) are5) is.stored256_is)
    ∙ ap (λ x. spaced e.name (decimal e.rounds) (base64_of e.salt) (base64_of e.stored1) (base64_of e.server1) (base64_of e.stored256) x)
    (sized-spelt 32 32 d e.server256 are6 is.server256_is)

-- a line, which has its LF at its end alone, is that of the account that it is read as
pub line-spelt : (text : List ℕ) (e : Entry) → IsBytes text → after 10 text ≡ None → line_of (text ++ 10 ∷ []) ≡ Ok e → text ++ 10 ∷ [] ≡ line_text e
line-spelt text e are end h =
    let split = need-found kind.Fields (fields_of (text ++ 10 ∷ [])) entry_in e h in
    let f = split.0 in
    let texts : texts_in text ≡ Some f = sym (cut-at 10 text [] (λ t rest. texts_in t) (none-lacks 10 text end)) ∙ split.1 in
    let is = texts-found text f texts in
    ap (λ t. t ++ 10 ∷ []) (is ∙ entry-spelt e f.name f.rounds f.salt f.stored1 f.server1 f.stored256 f.server256 (subst IsBytes is are) split.2)
    ∙ sym (spread e.name (decimal e.rounds) (base64_of e.salt) (base64_of e.stored1) (base64_of e.server1) (base64_of e.stored256) (base64_of e.server256))
