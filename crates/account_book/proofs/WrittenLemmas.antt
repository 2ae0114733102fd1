-- A line is read as the account that it is written for.
use Rattle.std.proofs.Common.{◌≡◌, ℕ, ◌+◌, ◌^◌, ◌<◌, ◌≤◌, nat_le, List, [], ◌∷◌, ◌++◌, length, map, codes, Bool, true, false, not, ◌&&◌, ◌==◌}
use Rattle.std.proofs.Common.{if◌then◌else◌, Option, Some, None, is_some, Result, Ok, arith, refl, sym, ap, subst, ◌∙◌, append_assoc}
use Rattle.std.proofs.lemmas.Bool.{cond-true, le-leb, eqb-true}
use Rattle.std.proofs.lemmas.Fmt.{decimal-digits_of}
use Rattle.std.specs.Fmt.{decimal}
use Rattle.std.specs.Int.Digits.{digits_of}
use Rattle.std.specs.Option.{option_and_then}
use Rattle.std.specs.Result.{result_ok}
use Rattle.base64.specs.Engines.{standard}
use Rattle.base64.specs.GeneralPurpose.{IsBytes}
use Rattle.base64.proofs.EngineFacts.{decode_of-encode_of}
use Rattle.jid_core.specs.Cuts.{after}
use Rattle.scram_core.specs.Login.{base64_of}
use Rattle.scram_core.specs.Grammar.{base64}
use Rattle.scram_core.proofs.Classes.{passes-text}
use Rattle.scram_core.proofs.Encodings.{encoding-text}
use Rattle.account_book.specs.declared.fault.LineKind.{LineKind}
use Rattle.account_book.specs.declared.fault.LineKind.TheVariants as kind
use Rattle.account_book.specs.Entries.{Entry, line_text, IsSized, IsEntry}
use Rattle.account_book.specs.Fields.{Texts, texts_in, cut, on, name_in, are_rounds, rounds_in, bytes_in, sized, key_in, salt_in}
use Rattle.account_book.specs.Lines.{need, entry_in, line_of}
use Rattle.sm_resume.proofs.Numbers.{number-found}
use Rattle.account_book.proofs.CutLemmas.{lacks, true-two, before-at, after-at, after-none, lacks-append}
use Rattle.account_book.proofs.LocalLemmas.{local-lacks-space, local-lacks-end, name-read}

-- Base64 has no space and no line feed.

pub base64-lacks-space : (bs : List ℕ) → IsBytes bs → lacks 32 (base64_of bs) ≡ true
base64-lacks-space bs h = passes-text (λ b. not (b == 32)) base64 (base64_of bs) refl (encoding-text bs h)

pub base64-lacks-end : (bs : List ℕ) → IsBytes bs → lacks 10 (base64_of bs) ≡ true
base64-lacks-end bs h = passes-text (λ b. not (b == 10)) base64 (base64_of bs) refl (encoding-text bs h)

pub bytes-read : (bs : List ℕ) → IsBytes bs → bytes_in (base64_of bs) ≡ Some bs
unfolding bytes_in
bytes-read bs h = ap result_ok (decode_of-encode_of standard bs (refl) h)

pub sized-read : (least most : ℕ) (bs : List ℕ) → IsSized least most bs → on (bytes_in (base64_of bs)) (sized least most) ≡ Some bs
sized-read least most bs s =
    ap (λ o. on o (sized least most)) (bytes-read bs s.are_bytes)
    ∙ cond-true (nat_le least (length bs) && nat_le (length bs) most) (Some bs) None
    (true-two (nat_le least (length bs)) (nat_le (length bs) most) (le-leb least (length bs) s.least_is) (le-leb (length bs) most s.most_is))

pub rounds-read : (n : ℕ) → 4096 ≤ n → n ≤ 1000000 → rounds_in (decimal n) ≡ Some n
rounds-read n least most =
    ap (λ o. on o are_rounds) (number-found (decimal n) n (omega (arith, most)) refl)
    ∙ cond-true (nat_le 4096 n && nat_le n 1000000) (Some n) None (true-two (nat_le 4096 n) (nat_le n 1000000) (le-leb 4096 n least) (le-leb n 1000000 most))

-- A decimal has digits alone.

digits-lack : (c : ℕ) → c < 48 → (ds : List ℕ) → lacks c (map (λ d. 48 + d) ds) ≡ true
digits-lack c l [] = refl
digits-lack c l (d ∷ ds) = true-two (not ((48 + d) == c)) (lacks c (map (λ d. 48 + d) ds)) (byte ((48 + d) == c) refl) (digits-lack c l ds)
  where
    byte : (x : Bool) → ((48 + d) == c) ≡ x → not x ≡ true
    byte true e = let same = eqb-true (48 + d) c e in absurd (omega (arith, same, l))
    byte false e = refl

decimal-lacks : (c n : ℕ) → c < 48 → 0 < n → n < 2 ^ 64 → lacks c (decimal n) ≡ true
decimal-lacks c n l some fits = subst (λ (t : List ℕ). lacks c t ≡ true) (sym (decimal-digits_of n some fits)) (digits-lack c l (digits_of 10 n))

-- The fields of a text, one after the other.

abbrev pub seventh : List ℕ → List ℕ → List ℕ → List ℕ → List ℕ → List ℕ → List ℕ → Option Texts
seventh n r s a b c d =
    if is_some (after 32 d) then None else Some (record {
      name = n;
      rounds = r;
      salt = s;
      stored1 = a;
      server1 = b;
      stored256 = c;
      server256 = d;
    })

abbrev pub sixth : List ℕ → List ℕ → List ℕ → List ℕ → List ℕ → List ℕ → Option Texts
sixth n r s a b rest = cut 32 rest (seventh n r s a b)

abbrev pub fifth : List ℕ → List ℕ → List ℕ → List ℕ → List ℕ → Option Texts
fifth n r s a rest = cut 32 rest (sixth n r s a)

abbrev pub fourth : List ℕ → List ℕ → List ℕ → List ℕ → Option Texts
fourth n r s rest = cut 32 rest (fifth n r s)

abbrev pub third : List ℕ → List ℕ → List ℕ → Option Texts
third n r rest = cut 32 rest (fourth n r)

abbrev pub second : List ℕ → List ℕ → Option Texts
second n rest = cut 32 rest (third n)

pub cut-at : {Y : Type 0} (c : ℕ) (xs rest : List ℕ) (more : List ℕ → List ℕ → Option Y) → lacks c xs ≡ true → cut c (xs ++ c ∷ rest) more ≡ more xs rest
cut-at c xs rest more h =
    ap (λ t. option_and_then (more t) (after c (xs ++ c ∷ rest))) (before-at c xs rest h) ∙ ap (λ o. option_and_then (more xs) o) (after-at c xs rest h)

abbrev pub spaced : List ℕ → List ℕ → List ℕ → List ℕ → List ℕ → List ℕ → List ℕ → List ℕ
spaced n r s a b c d = n ++ 32 ∷ (r ++ 32 ∷ (s ++ 32 ∷ (a ++ 32 ∷ (b ++ 32 ∷ (c ++ 32 ∷ d)))))

texts-written : (n r s a b c d : List ℕ) → lacks 32 n ≡ true → lacks 32 r ≡ true → lacks 32 s ≡ true → lacks 32 a ≡ true → lacks 32 b ≡ true → lacks 32 c ≡ true
    → lacks 32 d ≡ true
    → texts_in (spaced n r s a b c d) ≡ Some (record { name = n; rounds = r; salt = s; stored1 = a; server1 = b; stored256 = c; server256 = d })
texts-written n r s a b c d hn hr hs ha hb hc hd =
    cut-at 32 n (r ++ 32 ∷ (s ++ 32 ∷ (a ++ 32 ∷ (b ++ 32 ∷ (c ++ 32 ∷ d))))) second hn
    ∙ cut-at 32 r (s ++ 32 ∷ (a ++ 32 ∷ (b ++ 32 ∷ (c ++ 32 ∷ d)))) (third n) hr
    ∙ cut-at 32 s (a ++ 32 ∷ (b ++ 32 ∷ (c ++ 32 ∷ d))) (fourth n r) hs
    ∙ cut-at 32 a (b ++ 32 ∷ (c ++ 32 ∷ d)) (fifth n r s) ha
    ∙ cut-at 32 b (c ++ 32 ∷ d) (sixth n r s a) hb
    ∙ cut-at 32 c d (seventh n r s a b) hc
    ∙ ap (λ o. if is_some o then None else Some (record { name = n; rounds = r; salt = s; stored1 = a; server1 = b; stored256 = c; server256 = d }))
    (after-none 32 d hd)

lacks-ends : (n r s a b c d : List ℕ) → lacks 10 n ≡ true → lacks 10 r ≡ true → lacks 10 s ≡ true → lacks 10 a ≡ true → lacks 10 b ≡ true → lacks 10 c ≡ true
    → lacks 10 d ≡ true
    → lacks 10 (spaced n r s a b c d) ≡ true
lacks-ends n r s a b c d hn hr hs ha hb hc hd =
    lacks-append 10 n (32 ∷ (r ++ 32 ∷ (s ++ 32 ∷ (a ++ 32 ∷ (b ++ 32 ∷ (c ++ 32 ∷ d)))))) hn
    (lacks-append 10 r (32 ∷ (s ++ 32 ∷ (a ++ 32 ∷ (b ++ 32 ∷ (c ++ 32 ∷ d))))) hr
    (lacks-append 10 s (32 ∷ (a ++ 32 ∷ (b ++ 32 ∷ (c ++ 32 ∷ d)))) hs
    (lacks-append 10 a (32 ∷ (b ++ 32 ∷ (c ++ 32 ∷ d))) ha
    (lacks-append 10 b (32 ∷ (c ++ 32 ∷ d)) hb
    (lacks-append 10 c (32 ∷ d) hc hd)))))

-- the account by what each field is read as
abbrev pub reads : Option (List ℕ) → Option ℕ → Option (List ℕ) → Option (List ℕ) → Option (List ℕ) → Option (List ℕ) → Option (List ℕ) → Result Entry LineKind
reads name rounds salt stored1 server1 stored256 server256 =
    need kind.Name name (λ name. need kind.Rounds rounds
    (λ rounds. need kind.Salt salt (λ salt. need kind.Key stored1 (λ stored1. need kind.Key server1 (λ server1.
    need kind.Key stored256 (λ stored256. need kind.Key server256 (λ server256.
    Ok (record { name = name; rounds = rounds; salt = salt; stored1 = stored1; server1 = server1; stored256 = stored256; server256 = server256 }))))))))

all-read : (e : Entry) (n : Option (List ℕ)) (r : Option ℕ) (s a b c d : Option (List ℕ)) → n ≡ Some e.name → r ≡ Some e.rounds → s ≡ Some e.salt
    → a ≡ Some e.stored1
    → b ≡ Some e.server1 → c ≡ Some e.stored256 → d ≡ Some e.server256 → reads n r s a b c d ≡ Ok e
all-read e n r s a b c d hn hr hs ha hb hc hd =
    ap (λ o. reads o r s a b c d) hn ∙ ap (λ o. reads (Some e.name) o s a b c d) hr ∙ ap (λ o. reads (Some e.name) (Some e.rounds) o a b c d) hs
    ∙ ap (λ o. reads (Some e.name) (Some e.rounds) (Some e.salt) o b c d) ha
    ∙ ap (λ o. reads (Some e.name) (Some e.rounds) (Some e.salt) (Some e.stored1) o c d) hb
    ∙ ap (λ o. reads (Some e.name) (Some e.rounds) (Some e.salt) (Some e.stored1) (Some e.server1) o d) hc
    ∙ ap (λ o. reads (Some e.name) (Some e.rounds) (Some e.salt) (Some e.stored1) (Some e.server1) (Some e.stored256) o) hd

pub spread : (n r s a b c d : List ℕ)
    → n ++ codes " " ++ r ++ codes " " ++ s ++ codes " " ++ a ++ codes " " ++ b ++ codes " " ++ c ++ codes " " ++ d ++ codes "\n"
    ≡ spaced n r s a b c d ++ 10 ∷ []
spread n r s a b c d = simp append_assoc

line-read : (e : Entry) (n r s a b c d : List ℕ) → lacks 10 (spaced n r s a b c d) ≡ true
    → texts_in (spaced n r s a b c d) ≡ Some (record { name = n; rounds = r; salt = s; stored1 = a; server1 = b; stored256 = c; server256 = d })
    → reads (name_in n) (rounds_in r) (salt_in s) (key_in 20 a) (key_in 20 b) (key_in 32 c) (key_in 32 d) ≡ Ok e
    → line_of (spaced n r s a b c d ++ 10 ∷ []) ≡ Ok e
line-read e n r s a b c d end texts all =
    ap (λ o. need kind.Fields o entry_in) (cut-at 10 (spaced n r s a b c d) [] (λ text end. texts_in text) end ∙ texts) ∙ all

-- the line of an account is read as the account
pub line-written : (e : Entry) → IsEntry e → line_of (line_text e) ≡ Ok e
line-written e is =
    let low : 0 < e.rounds = omega (arith, is.least_rounds) in
    let high : e.rounds < 2 ^ 64 = omega (arith, is.most_rounds) in
    ap line_of (spread e.name (decimal e.rounds) (base64_of e.salt) (base64_of e.stored1) (base64_of e.server1) (base64_of e.stored256) (base64_of e.server256))
    ∙ line-read e e.name (decimal e.rounds) (base64_of e.salt) (base64_of e.stored1) (base64_of e.server1) (base64_of e.stored256) (base64_of e.server256)
    (lacks-ends e.name (decimal e.rounds) (base64_of e.salt) (base64_of e.stored1) (base64_of e.server1) (base64_of e.stored256) (base64_of e.server256)
    (local-lacks-end e.name is.local_part) (decimal-lacks 10 e.rounds (omega arith) low high) (base64-lacks-end e.salt is.salt.are_bytes)
    (base64-lacks-end e.stored1 is.stored1.are_bytes) (base64-lacks-end e.server1 is.server1.are_bytes) (base64-lacks-end e.stored256 is.stored256.are_bytes)
    (base64-lacks-end e.server256 is.server256.are_bytes))
    (texts-written e.name (decimal e.rounds) (base64_of e.salt) (base64_of e.stored1) (base64_of e.server1) (base64_of e.stored256) (base64_of e.server256)
    (local-lacks-space e.name is.local_part) (decimal-lacks 32 e.rounds (omega arith) low high) (base64-lacks-space e.salt is.salt.are_bytes)
    (base64-lacks-space e.stored1 is.stored1.are_bytes) (base64-lacks-space e.server1 is.server1.are_bytes)
    (base64-lacks-space e.stored256 is.stored256.are_bytes)
    (base64-lacks-space e.server256 is.server256.are_bytes))
    (all-read e (name_in e.name) (rounds_in (decimal e.rounds)) (salt_in (base64_of e.salt)) (key_in 20 (base64_of e.stored1)) (key_in 20 (base64_of e.server1))
    (key_in 32 (base64_of e.stored256)) (key_in 32 (base64_of e.server256))
    (name-read e.name is.local_part) (rounds-read e.rounds is.least_rounds is.most_rounds) (sized-read 8 64 e.salt is.salt)
    (sized-read 20 20 e.stored1 is.stored1)
    (sized-read 20 20 e.server1 is.server1) (sized-read 32 32 e.stored256 is.stored256) (sized-read 32 32 e.server256 is.server256))
