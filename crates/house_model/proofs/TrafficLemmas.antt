-- What is kept of a session's traffic follows what is done with the traffic.
use Rattle.std.proofs.Common.{◌≡◌, ℕ, zero, suc, ◌+◌, ◌-◌, ◌<◌, ◌≤◌, ◌^◌, List, [], ◌∷◌, length, drop, Option, Some}
use Rattle.std.proofs.Common.{None, refl, sym, ap, ◌∙◌, length-append, length-drop, arith}
use Rattle.std.specs.Prelude.{slice_get}
use Rattle.std.specs.Option.{option_map}
use Rattle.std.proofs.lemmas.List.{drop-append-le, drop-drop}
use Rattle.std.proofs.Math.Nat.{mod-add-mod}
use Rattle.stanza_tree.specs.declared.frame.Entry.{Entry}
use Rattle.stanza_model.specs.declared.stanza.Stanza.{Stanza}
use Rattle.sm_counters.specs.Numbers.{count_of, number}
use Rattle.sm_counters.proofs.CountLaws.{number-some, number-none, number-is, number-is_none}
use Rattle.sm_resume.specs.declared.decision.Cause.TheVariants.{Overfull, TooHigh}
use Rattle.house_model.specs.Traffic.{Traffic, KeptTraffic, Ordered, whole, brief, keep_traffic, give, give_up, handled, ack, resume}
use Rattle.house_model.specs.Traffic.{without, kept_give, kept_give_up, kept_handled, kept_ack, kept_resume}

-- an entry that waits, in the list of all
slice_past : {A : Type 0} (xs : List A) (n i : ℕ) → slice_get (drop n xs) i ≡ slice_get xs (n + i)
slice_past xs zero i = let e : 0 + i ≡ i = omega arith in rw e refl
slice_past [] (suc n) i = refl
slice_past (x ∷ xs) (suc n) i = let e : suc n + i ≡ suc (n + i) = omega arith in rw e (slice_past xs n i)

abbrev kept_as : List Entry → (given count given_up asked_at acted base_in : ℕ) → KeptTraffic
kept_as w g c u a d b = record { waiting = w; given = g; count = c; given_up = u; asked_at = a; acted = d; base_in = b }

same : {w w' : List Entry} {g g' c c' u u' a a' d d' b b' : ℕ} → w ≡ w' → g ≡ g' → c ≡ c' → u ≡ u' → a ≡ a' → d ≡ d'
    → b ≡ b' → kept_as w g c u a d b ≡ kept_as w' g' c' u' a' d' b'
same w g c u a d b = λ i. kept_as (w i) (g i) (c i) (u i) (a i) (d i) (b i)

-- a count that is raised
raised : (a b n : ℕ) → b ≡ a + n → count_of b ≡ count_of (count_of a + n)
raised a b n e = rw e (sym (mod-add-mod a (2 ^ 32) n))

further : (xs : List Entry) (n m i : ℕ) → m ≡ n + i → drop m xs ≡ drop i (drop n xs)
further xs n m i e = rw e (sym (drop-drop i n xs))

pub queue_kept : (t : Traffic) (e : Entry) → Ordered t → keep_traffic (whole.queue t e) ≡ brief.queue (keep_traffic t) e
queue_kept t e o =
    let low : t.kept ≤ length t.queued = omega (arith, o.kept, o.sent) in
    same (drop-append-le t.kept t.queued (e ∷ []) low) refl refl refl refl refl refl

pub given_is : (t : Traffic) → Ordered t
    → slice_get (drop t.kept t.queued) (t.sent - t.kept) ≡ slice_get t.queued t.sent
given_is t o = slice_past t.queued t.kept (t.sent - t.kept) ∙ ap (slice_get t.queued) (omega (arith, o.kept))

give_by : (t : Traffic) (e : Option Entry) → Ordered t → keep_traffic (give t e) ≡ kept_give (keep_traffic t) e
give_by t None o = refl
give_by t (Some e) o = same refl (omega (arith, o.kept)) refl refl refl refl refl

pub give_kept : (t : Traffic) → Ordered t → keep_traffic (whole.give t) ≡ brief.give (keep_traffic t)
give_kept t o = give_by t (slice_get t.queued t.sent) o ∙ ap (kept_give (keep_traffic t)) (sym (given_is t o))

give_up_by : (t : Traffic) (e : Option Entry) → Ordered t → keep_traffic (give_up t e) ≡ kept_give_up (keep_traffic t) e
give_up_by t None o = refl
give_up_by t (Some e) o = same
    (further t.queued t.kept (t.sent + 1) (t.sent - t.kept + 1) (omega (arith, o.kept)))
    (omega (arith, o.kept))
    (raised (t.kept - t.base_out) (t.sent + 1 - t.base_out) (t.sent - t.kept + 1) (omega (arith, o.base, o.kept)))
    (omega (arith, o.kept))
    refl refl refl

pub give_up_kept : (t : Traffic) → Ordered t → keep_traffic (whole.give_up t) ≡ brief.give_up (keep_traffic t)
give_up_kept t o = give_up_by t (slice_get t.queued t.sent) o ∙ ap (kept_give_up (keep_traffic t)) (sym (given_is t o))

pub ask_kept : (t : Traffic) → Ordered t → keep_traffic (whole.ask t) ≡ brief.ask (keep_traffic t)
ask_kept t o = same refl refl refl refl (omega (arith, o.kept)) refl refl

pub enable_kept : (t : Traffic) → Ordered t → keep_traffic (whole.enable t) ≡ brief.enable (keep_traffic t)
enable_kept t o = same
    (further t.queued t.kept t.sent (t.sent - t.kept) (omega (arith, o.kept)))
    (omega arith)
    (omega arith)
    (omega (arith, o.kept))
    (omega (arith, o.kept))
    refl refl

pub act_kept : (t : Traffic) (x : Stanza) → keep_traffic (whole.act t x) ≡ brief.act (keep_traffic t) x
act_kept t x = same refl refl refl refl refl (length-append t.acts (x ∷ [])) refl

-- Of fewer than 2^32 numbers in a row, the one that has a count is as far from the first one as it is where the count of the
-- first one begins the row.
pub number_kept : (a q d h : ℕ) → q ≡ a + d → d < 2 ^ 32
    → option_map (λ n. n - a) (number a q h) ≡ option_map (λ n. n - count_of a) (number (count_of a) (count_of a + d) h)
number_kept a q d h at narrow = found (number a q h) refl
  where
    found : (o : Option ℕ) → number a q h ≡ o
        → option_map (λ n. n - a) o ≡ option_map (λ n. n - count_of a) (number (count_of a) (count_of a + d) h)
    found None absent = ap (option_map (λ n. n - count_of a)) (sym (number-is_none (count_of a) (count_of a + d) h
        (λ m is. number-none a q h (a + (m - count_of a)) absent (record {
          low = omega arith;
          high = omega (arith, is.low, is.high);
          count = omega (arith, is.low, is.count);
        }))))
    found (Some n) has =
        let is = number-some a q h n has in
        ap Some (omega arith)
        ∙ ap (option_map (λ n. n - count_of a))
        (sym (number-is (count_of a) (count_of a + d) h (count_of a + (n - a)) (omega arith) (record {
          low = omega arith;
          high = omega (arith, is.high);
          count = omega (arith, is.low, is.count);
        })))

handled_kept : (t : Traffic) (h : ℕ) → Ordered t
    → option_map (λ n. n - (t.kept - t.base_out)) (handled t h)
    ≡ option_map (λ n. n - (keep_traffic t).count) (kept_handled (keep_traffic t) h)
handled_kept t h o =
    number_kept (t.kept - t.base_out) (t.sent - t.base_out) (t.sent - t.kept) h (omega (arith, o.base, o.kept))
    (omega (arith, o.sent, o.few))

abbrev pub keep_option : Option Traffic → Option KeptTraffic
keep_option None = None
keep_option (Some t) = Some (keep_traffic t)

-- by how many entries are acknowledged
kept_ack_is : (k : KeptTraffic) (n : Option ℕ)
    → kept_ack k n ≡ option_map (λ d. without d k) (option_map (λ m. m - k.count) n)
kept_ack_is k None = refl
kept_ack_is k (Some n) = refl

ack_by : (t : Traffic) (h : ℕ) (n : Option ℕ) → Ordered t → handled t h ≡ n
    → keep_option (ack t n) ≡ option_map (λ d. without d (keep_traffic t)) (option_map (λ m. m - (t.kept - t.base_out)) n)
ack_by t h None o is = refl
ack_by t h (Some n) o is =
    let found = number-some (t.kept - t.base_out) (t.sent - t.base_out) h n is in
    ap Some (same
    (further t.queued t.kept (t.base_out + n) (n - (t.kept - t.base_out)) (omega (arith, found.low, o.base)))
    (omega (arith, found.low, o.base))
    (raised (t.kept - t.base_out) (t.base_out + n - t.base_out) (n - (t.kept - t.base_out)) (omega (arith, found.low)))
    (omega (arith, found.low, o.base))
    refl refl refl)

pub ack_kept : (t : Traffic) (h : ℕ) → Ordered t → keep_option (whole.ack t h) ≡ brief.ack (keep_traffic t) h
ack_kept t h o =
    ack_by t h (handled t h) o refl
    ∙ (ap (option_map (λ d. without d (keep_traffic t))) (handled_kept t h o)
    ∙ sym (kept_ack_is (keep_traffic t) (kept_handled (keep_traffic t) h)))

-- nothing was given since, and no acknowledgement asked for
abbrev rewound : KeptTraffic → ℕ → KeptTraffic
rewound k d = record (without d k) { given = 0; asked_at = k.given_up + d }

kept_resume_is : (k : KeptTraffic) (n : Option ℕ)
    → kept_resume k n ≡ option_map (rewound k) (option_map (λ m. m - k.count) n)
kept_resume_is k None = refl
kept_resume_is k (Some n) = refl

resume_by : (t : Traffic) (h : ℕ) (n : Option ℕ) → Ordered t → handled t h ≡ n
    → keep_option (resume t n) ≡ option_map (rewound (keep_traffic t)) (option_map (λ m. m - (t.kept - t.base_out)) n)
resume_by t h None o is = refl
resume_by t h (Some n) o is =
    let found = number-some (t.kept - t.base_out) (t.sent - t.base_out) h n is in
    ap Some (same
    (further t.queued t.kept (t.base_out + n) (n - (t.kept - t.base_out)) (omega (arith, found.low, o.base)))
    (omega arith)
    (raised (t.kept - t.base_out) (t.base_out + n - t.base_out) (n - (t.kept - t.base_out)) (omega (arith, found.low)))
    (omega (arith, found.low, o.base))
    (omega (arith, found.low, o.base))
    refl refl)

pub resume_kept : (t : Traffic) (h : ℕ) → Ordered t → keep_option (whole.resume t h) ≡ brief.resume (keep_traffic t) h
resume_kept t h o =
    resume_by t h (handled t h) o refl
    ∙ (ap (option_map (rewound (keep_traffic t))) (handled_kept t h o)
    ∙ sym (kept_resume_is (keep_traffic t) (kept_handled (keep_traffic t) h)))

pub overfull_kept : (t : Traffic) → Ordered t → whole.overfull t ≡ brief.overfull (keep_traffic t)
overfull_kept t o = ap (Overfull t.kept) (omega (arith, length-drop t.kept t.queued, o.kept, o.sent))

pub too_high_kept : (t : Traffic) (h : ℕ) → Ordered t → whole.too_high t h ≡ brief.too_high (keep_traffic t) h
too_high_kept t h o =
    ap (TooHigh h (count_of (t.kept - t.base_out)))
    (raised (t.kept - t.base_out) (t.sent - t.base_out) (t.sent - t.kept) (omega (arith, o.base, o.kept)))
