-- What holds of all runs.
use Rattle.std.proofs.Common.{◌≡◌, ℕ, suc, ◌+◌, ◌-◌, ◌<◌, ◌≤◌, ◌^◌, min, List, [], ◌∷◌, ◌++◌, append_assoc, length, take, drop, refl}
use Rattle.std.proofs.Common.{sym, ap, ◌∙◌, subst, Bool, true, false, not, cond, ◌||◌, ◌&&◌, ◌==◌, nat_lt, arith}
use Rattle.std.specs.Prelude.{Option, None, Some, if◌then◌else◌}
use Rattle.std.specs.Option.{is_some}
use Rattle.std.proofs.lemmas.Bool.{and_from, and_parts, and_right, not-true, lt-leb}
use Rattle.std.proofs.lemmas.List.{length-append, drop-drop, take_rest, take-append-drop, take-take, length-take, length-take-le}
use Rattle.std.proofs.Math.Seq.{take-add}
use Rattle.stream_lex.specs.declared.Token.{Token}
use Rattle.stream_lex.specs.declared.characters.Pending.{Pending}
use Rattle.stream_lex.specs.declared.characters.Pending.TheVariants as pending
use Rattle.stream_lex.specs.declared.stages.Stage.{Stage}
use Rattle.stream_lex.specs.declared.stages.State.{State}
use Rattle.stream_lex.specs.machine.Characters.{is_nothing, reach}
use Rattle.stream_lex.specs.grammar.Kinds.{ascii_kind}
use Rattle.stream_lex.specs.machine.Machine.{ascii}
use Rattle.stream_lex.specs.machine.Machine.{yields as tells_and_goes}
use Rattle.stream_lex.specs.machine.Turns.{leads, at, settled, turn_ascii, turn_wide, turn}
use Rattle.stream_grammar.specs.declared.FrameFault.{FrameFault}
use Rattle.stream_grammar.specs.declared.FrameFault.TheVariants as fault
use Rattle.stream_grammar.specs.declared.item.Limits.{Limits}
use Rattle.stream_grammar.specs.declared.item.Item.{Item}
use Rattle.stream_grammar.specs.declared.rules.Rules.{Rules}
use Rattle.stream_grammar.specs.machine.Framing.{Frame, frame_next, is_broken, fault_at}
use Rattle.stream_grammar.specs.machine.Ends.{told_at, in_item}
use Rattle.stream_grammar.specs.machine.Telling.{fault_told}
use Rattle.stream_grammar.specs.machine.Building.{Building, build_all, told_judged}
use Rattle.stream_grammar.specs.machine.Reading.{Reading, reads, or_else, fault_if, concluded, is_past, extent_after, byte_judged}
use Rattle.stream_grammar.specs.machine.Reading.{reading_next, reading_after, taken_reading, is_done, is_none}
use Rattle.stream_grammar.specs.grammar.Bounds.{is_large_item, told_number, rules_of}
use Rattle.stream_grammar.specs.machine.Texts.{HasTexts}
use Rattle.stream_grammar.proofs.FeedLemmas.{after_more}
use Rattle.stream_grammar.proofs.NameTexts.{next_texts}
use Rattle.stream_frames.specs.Fed.{reading_of}
use Rattle.stream_frames.specs.Markup.{LeadsBy}
use Rattle.stream_frames.specs.Runs.{are_plain, is_between_characters, IsRun, Leads}

-- A byte that ends nothing and has no fault.

pub judged-none : (p : Bool) (t j : Option FrameFault) (q : Bool) → p ≡ false → t ≡ None → j ≡ None → q ≡ false
    → or_else (fault_if p fault.TooLong) (or_else t (or_else j (fault_if q fault.TooLong))) ≡ None
judged-none p t j q e1 e2 e3 e4 =
    ap (λ (p : Bool). or_else (fault_if p fault.TooLong) (or_else t (or_else j (fault_if q fault.TooLong)))) e1
    ∙ (ap (λ (t : Option FrameFault). or_else t (or_else j (fault_if q fault.TooLong))) e2
    ∙ (ap (λ (j : Option FrameFault). or_else j (fault_if q fault.TooLong)) e3 ∙ ap (λ (q : Bool). fault_if q fault.TooLong) e4))

pub untold : (r : Rules) (f : Frame) (b : ℕ) → is_broken f ≡ false → is_broken (frame_next r f b) ≡ false → fault_told r f b ≡ None
untold r f b e1 e2 = ap (λ (x : Bool). cond x None (cond (is_broken (frame_next r f b)) (Some (fault_at r f b)) None)) e1
    ∙ ap (λ (x : Bool). cond x (Some (fault_at r f b)) None) e2

-- what it does, where it tells these tokens
pub record Quiet (l : Limits) (f : Frame) (b : Building) (byte : ℕ) (ts : List Token) (g : Frame) (c : Building) : Type 0 where
  pub framed : frame_next (rules_of l) f byte ≡ g
  pub told : told_at f byte ≡ ts
  pub built : build_all b ts ≡ c
  pub named : told_judged b ts ≡ None
  pub unbroken : is_broken f ≡ false
  pub still : is_broken g ≡ false
  pub within : in_item g ≡ true
  pub same : c.item ≡ b.item

quiet-next : (l : Limits) (f g : Frame) (b c : Building) (byte : ℕ) (ts : List Token) (n k : ℕ) → Quiet l f b byte ts g c → n < l.bytes → b.item ≡ None
    → reading_next l (reads f b n k) byte ≡ reads g c (n + 1) (told_number (k + 1))
quiet-next l f g b c byte ts n k q short none =
    let none_judged : byte_judged l f b n byte ≡ None =
    judged-none (is_past l f (frame_next (rules_of l) f byte) n) (fault_told (rules_of l) f byte) (told_judged b (told_at f byte))
    (is_large_item l (build_all b (told_at f byte)).item)
    (and_right _ _ (lt-leb l.bytes n short)) (untold (rules_of l) f byte q.unbroken (ap is_broken q.framed ∙ q.still)) (ap (told_judged b) q.told ∙ q.named)
    (ap (λ (x : List Token). is_large_item l (build_all b x).item) q.told
    ∙ (ap (λ (x : Building). is_large_item l x.item) q.built ∙ ap (is_large_item l) (q.same ∙ none))) in
    ap (λ (o : Option FrameFault). concluded o
    (reads (frame_next (rules_of l) f byte) (build_all b (told_at f byte)) (extent_after (frame_next (rules_of l) f byte) n) (told_number (k + 1)))
    (told_number (k + 1))) none_judged
    ∙ (ap (λ (x : Frame). reads x (build_all b (told_at f byte)) (extent_after x n) (told_number (k + 1))) q.framed
    ∙ (ap (λ (x : List Token). reads g (build_all b x) (extent_after g n) (told_number (k + 1))) q.told
    ∙ (ap (λ (x : Building). reads g x (extent_after g n) (told_number (k + 1))) q.built
    ∙ ap (λ (t : Bool). reads g c (if t then n + 1 else 1) (told_number (k + 1))) q.within)))

-- A run from its end: no bytes, and a byte more before it.

no-item : (i : Option Item) → not (is_none i) ≡ false → i ≡ None
no-item None h = refl
no-item (Some i) h = absurd (let bad : true ≡ false = h in cc)

pub no_bytes_led : (f : Frame) (b c : Building) → c ≡ b → Leads f b [] f c
no_bytes_led f b c e = record {
  run = λ l n k ys going small fits.
      let same : reads f c (n + 0) (told_number (k + 0)) ≡ reads f b n k =
      ap (λ (x : Building). reads f x (n + 0) (told_number (k + 0))) e
      ∙ (ap (λ (i : ℕ). reads f b i (told_number (k + 0))) (let e : n + 0 ≡ n = omega arith in e)
      ∙ ap (reads f b n) (let e : told_number (k + 0) ≡ k = omega (arith, small) in e)) in record {
        read = sym same;
        going = ap is_done same ∙ going;
        rest = ap (λ (s : Reading). taken_reading l s ys) (sym same) ∙ none-more (taken_reading l (reads f c (n + 0) (told_number (k + 0))) ys);
      };
  texts = λ h. subst (λ (x : Building). HasTexts f x.tag) (sym e) h;
}
  where
    none-more : (i : ℕ) → i ≡ 0 + i
    none-more i = omega arith

going-on : (l : Limits) (s t : Reading) (b : ℕ) (bs : List ℕ) (n m : ℕ) → reading_next l s b ≡ t → is_done t ≡ false → taken_reading l t bs ≡ n + m
    → taken_reading l s (b ∷ bs) ≡ suc n + m
going-on l s t b bs n m e going h =
    ap (λ (r : Reading). if is_done r then 1 else 1 + taken_reading l r bs) e
    ∙ (ap (λ (x : Bool). if x then 1 else 1 + taken_reading l t bs) going ∙ (ap (λ (i : ℕ). 1 + i) h ∙ shift n m))
  where
    shift : (n m : ℕ) → 1 + (n + m) ≡ suc n + m
    shift n m = omega arith

more-run : (l : Limits) (f g h : Frame) (b c d : Building) (byte : ℕ) (ts : List Token) (xs ys : List ℕ) (n k : ℕ) → Quiet l f b byte ts g c → Leads g c xs h d
    → is_done (reads f b n k) ≡ false → k < 2 ^ 64 → n + length (byte ∷ xs) ≤ l.bytes
    → IsRun l (reads f b n k) (byte ∷ xs) ys (reads h d (n + length (byte ∷ xs)) (told_number (k + length (byte ∷ xs))))
more-run l f g h b c d byte ts xs ys n k q led going small fits =
    let room : n + suc (length xs) ≤ l.bytes = fits in
    let none : b.item ≡ None = no-item b.item going in
    let first = quiet-next l f g b c byte ts n k q (omega (arith, room)) none in
    let goes : is_done (reads g c (n + 1) (told_number (k + 1))) ≡ false = ap (λ (i : Option Item). not (is_none i)) (q.same ∙ none) in
    let more = led.run l (n + 1) (told_number (k + 1)) ys goes (let e : told_number (k + 1) < 2 ^ 64 = omega arith in e) (omega (arith, room)) in
    let to : reads h d ((n + 1) + length xs) (told_number (told_number (k + 1) + length xs))
    ≡ reads h d (n + suc (length xs)) (told_number (k + suc (length xs))) =
    ap (λ (i : ℕ). reads h d i (told_number (told_number (k + 1) + length xs))) (let e : (n + 1) + length xs ≡ n + suc (length xs) = omega arith in e)
    ∙ ap (reads h d (n + suc (length xs))) (let e : told_number (told_number (k + 1) + length xs) ≡ told_number (k + suc (length xs)) = omega arith in e)
    in record {
      read = ap (λ (s : Reading). reading_after l s xs) first ∙ (more.read ∙ to);
      going = more.going;
      rest = going-on l (reads f b n k) (reads g c (n + 1) (told_number (k + 1))) byte (xs ++ ys) (length xs)
          (taken_reading l (reads h d (n + suc (length xs)) (told_number (k + suc (length xs)))) ys) first goes
          (more.rest ∙ ap (λ (s : Reading). length xs + taken_reading l s ys) to);
    }

-- what was gathered of names stays UTF-8
quiet-texts : (l : Limits) (f g : Frame) (b c : Building) (byte : ℕ) (ts : List Token) → Quiet l f b byte ts g c → HasTexts f b.tag → HasTexts g c.tag
quiet-texts l f g b c byte ts q h =
    subst (λ (x : Building). HasTexts g x.tag) q.built
    (subst (λ (us : List Token). HasTexts g (build_all b us).tag) q.told
    (subst (λ (x : Frame). HasTexts x (build_all b (told_at f byte)).tag) q.framed (next_texts (rules_of l) f byte b h)))

limits-of : Rules → Limits
limits-of r = record { bytes = 0; depth = r.depth; attrs = r.attributes; canonical = 0 }

strict-rules : (r : Rules) → r.loose ≡ false → rules_of (limits-of r) ≡ r
unfolding limits-of
strict-rules r e = ap (λ (t : Bool). record r { loose = t }) (sym e)

any-limits : Limits
any-limits = record { bytes = 0; depth = 0; attrs = 0; canonical = 0 }

pub more_led : (f g h : Frame) (b c d : Building) (byte : ℕ) (ts : List Token) (xs : List ℕ) → ((l : Limits) → Quiet l f b byte ts g c) → Leads g c xs h d
    → Leads f b (byte ∷ xs) h d
more_led f g h b c d byte ts xs q led = record {
  run = λ l n k ys going small fits. more-run l f g h b c d byte ts xs ys n k (q l) led going small fits;
  texts = λ j. led.texts (quiet-texts any-limits f g b c byte ts (q any-limits) j);
}

-- one byte, under the rules
pub mark_led : (r : Rules) (f g : Frame) (b c : Building) (byte : ℕ) (ts : List Token) → ((l : Limits) → rules_of l ≡ r → Quiet l f b byte ts g c)
    → LeadsBy r f b (byte ∷ []) g c
mark_led r f g b c byte ts q = record {
  run = λ l n k ys by going small fits. more-run l f g g b c c byte ts [] ys n k (q l by) (no_bytes_led g c c refl) going small fits;
  texts = λ strict h. quiet-texts (limits-of r) f g b c byte ts (q (limits-of r) (strict-rules r strict)) h;
}

pub led_by : (r : Rules) (f g : Frame) (b c : Building) (xs : List ℕ) → Leads f b xs g c → LeadsBy r f b xs g c
led_by r f g b c xs led = record { run = λ l n k ys by going small fits. led.run l n k ys going small fits; texts = λ strict h. led.texts h }

-- bytes and then others
pub led_then : (r : Rules) (f g h : Frame) (b c d : Building) (xs ms : List ℕ) → LeadsBy r f b xs g c → LeadsBy r g c ms h d → LeadsBy r f b (xs ++ ms) h d
led_then r f g h b c d xs ms led more = record {
  run = λ l n k ys by going small fits.
      let long : length (xs ++ ms) ≡ length xs + length ms = length-append xs ms in
      let first = led.run l n k (ms ++ ys) by going small (omega (arith, long, fits)) in
      let second = more.run l (n + length xs) (told_number (k + length xs)) ys by first.going (let e : told_number (k + length xs) < 2 ^ 64 = omega arith in e)
      (omega (arith, long, fits)) in
      let to : reads h d ((n + length xs) + length ms) (told_number (told_number (k + length xs) + length ms))
      ≡ reads h d (n + length (xs ++ ms)) (told_number (k + length (xs ++ ms))) =
      ap (λ (i : ℕ). reads h d i (told_number (told_number (k + length xs) + length ms)))
      (let e : (n + length xs) + length ms ≡ n + length (xs ++ ms) = omega (arith, long) in e)
      ∙ ap (reads h d (n + length (xs ++ ms))) (let e : told_number (told_number (k + length xs) + length ms) ≡ told_number (k + length (xs ++ ms)) =
      omega (arith, long) in e) in record {
        read = after_more l (reads f b n k) xs ms ∙ (ap (λ (s : Reading). reading_after l s ms) first.read ∙ (second.read ∙ to));
        going = ap is_done (sym to) ∙ second.going;
        rest = ap (taken_reading l (reads f b n k)) (append_assoc xs ms ys)
            ∙ (first.rest ∙ (ap (λ (i : ℕ). length xs + i) (second.rest ∙ ap (λ (s : Reading). length ms + taken_reading l s ys) to)
            ∙ shift (length xs) (length ms) (length (xs ++ ms)) (taken_reading l (reads h d (n + length (xs ++ ms)) (told_number (k + length (xs ++ ms)))) ys)
            long));
      };
  texts = λ strict t. more.texts strict (led.texts strict t);
}
  where
    shift : (n m i j : ℕ) → i ≡ n + m → n + (m + j) ≡ i + j
    shift n m i j e = omega (arith, e)

pub texts_led : (r : Rules) (f g : Frame) (b c : Building) (xs : List ℕ) → LeadsBy r f b xs g c → r.loose ≡ false → HasTexts f b.tag → HasTexts g c.tag
texts_led r f g b c xs led strict h = led.texts strict h

pub leads_then : (f g h : Frame) (b c d : Building) (xs ms : List ℕ) → Leads f b xs g c → Leads g c ms h d → Leads f b (xs ++ ms) h d
leads_then f g h b c d xs ms led more = record {
  run = λ l n k ys going small fits.
      let r : Rules = rules_of l in (led_then r f g h b c d xs ms (led_by r f g b c xs led) (led_by r g h c d ms more)).run l n k ys refl going small fits;
  texts = λ t. more.texts (led.texts t);
}

-- where no byte is read, nothing changes
pub none_led : (f g : Frame) (b c : Building) (bytes : List ℕ) → g ≡ f → c ≡ b → Leads f b (take 0 bytes) g c
none_led f g b c bytes e1 e2 = subst (λ (x : Frame). Leads f b [] x c) (sym e1) (no_bytes_led f b c e2)

-- Plain bytes.

pub plain-append : (ok : ℕ → Bool) (xs : List ℕ) (b : ℕ) → are_plain ok xs ≡ true → ok b ≡ true → are_plain ok (xs ++ b ∷ []) ≡ true
plain-append ok [] b h e = and_from _ _ e refl
plain-append ok (x ∷ xs) b h e = let p = and_parts (ok x) (are_plain ok xs) h in and_from _ _ p.0 (plain-append ok xs b p.1 e)

-- what a test of all bytes below 128 says of a byte that passes
pub implied : (p q r : Bool) → p ≡ true → (not p || (q && not r)) ≡ true → (q ≡ true) × (r ≡ false)
implied true true false h e = (refl, refl)
implied true true true h e = absurd (let bad : false ≡ true = e in cc)
implied true false r h e = absurd (let bad : false ≡ true = e in cc)
implied false q r h e = absurd (let bad : false ≡ true = h in cc)

-- between two characters, a byte below 128 that isn't a carriage return does what its kind does
pub turned_to : (s t : Stage) (b : ℕ) (ts : List Token) → nat_lt b 128 ≡ true → (b == 13) ≡ false → ascii s (ascii_kind b) b ≡ tells_and_goes ts t
    → turn (at s pending.Nothing false) b ≡ leads (at t pending.Nothing false) ts
unfolding turn_ascii
turned_to s t b ts low no_return e =
    ap (λ (x : Bool). cond x (turn_ascii (at s pending.Nothing false) b) (turn_wide (at s pending.Nothing false) b (reach pending.Nothing b))) low
    ∙ (ap (λ (x : Bool). cond x (settled true (ascii s (ascii_kind 10) 10)) (settled false (ascii s (ascii_kind b) b))) no_return ∙ ap (settled false) e)

pub turned : (s : Stage) (b : ℕ) (ts : List Token) → nat_lt b 128 ≡ true → (b == 13) ≡ false → ascii s (ascii_kind b) b ≡ tells_and_goes ts s
    → turn (at s pending.Nothing false) b ≡ leads (at s pending.Nothing false) ts
turned s b ts low no_return e = turned_to s s b ts low no_return e

nothing-pends : (p : Pending) → is_nothing p ≡ true → p ≡ pending.Nothing
nothing-pends pending.Nothing h = refl
nothing-pends p h = absurd (let bad : false ≡ true = h in cc)

pub between-state : (st : State) → is_between_characters st ≡ true → st ≡ at st.stage pending.Nothing false
between-state st h =
    let q = and_parts (is_nothing st.pending) (not st.returned) h in
    ap (λ (x : Pending). at st.stage x st.returned) (nothing-pends st.pending q.0) ∙ ap (at st.stage pending.Nothing) (not-true st.returned q.1)

-- A run in a piece, of which a framer takes the bytes as far as its item has room.

pub run_skipped : (o : Option FrameFault) (l : Limits) (s : Reading) (f g : Frame) (b c : Building) (n k k1 m w : ℕ) (bytes : List ℕ)
    → is_some o ≡ false → s ≡ reading_of o f b n k → is_done s ≡ false → m ≤ length (take w bytes) → k < 2 ^ 64 → n + m ≤ l.bytes → k1 ≡ told_number (k + m)
    → LeadsBy (rules_of l) f b (take m (take w bytes)) g c → IsRun l s (take m bytes) (drop m bytes) (reading_of o g c (n + m) k1)
run_skipped (Some x) l s f g b c n k k1 m w bytes not_stopped is going fits small short told led = absurd (let bad : true ≡ false = not_stopped in cc)
run_skipped None l s f g b c n k k1 m w bytes not_stopped is going fits small short told led =
    let within : take m (take w bytes) ≡ take m bytes =
    take-take m w bytes (let e : length (take w bytes) ≡ min w (length bytes) = length-take w bytes in omega (arith, e, fits)) in
    let long : length (take m (take w bytes)) ≡ m = length-take-le m (take w bytes) fits in
    let run = led.run l n k (drop m bytes) refl (ap is_done (sym is) ∙ going) small (subst (λ (i : ℕ). n + i ≤ l.bytes) (sym long) short) in
    let to : reads g c (n + length (take m (take w bytes))) (told_number (k + length (take m (take w bytes)))) ≡ reads g c (n + m) k1 =
    ap (λ (i : ℕ). reads g c (n + i) (told_number (k + i))) long ∙ ap (reads g c (n + m)) (sym told) in
    subst (λ (xs : List ℕ). IsRun l s xs (drop m bytes) (reads g c (n + m) k1)) within
    (subst (λ (t : Reading). IsRun l s (take m (take w bytes)) (drop m bytes) t) to
    (subst (λ (x : Reading). IsRun l x (take m (take w bytes)) (drop m bytes)
    (reads g c (n + length (take m (take w bytes))) (told_number (k + length (take m (take w bytes)))))) (sym is) run))

pub run_after : (l : Limits) (s0 s t : Reading) (bs : List ℕ) (i n : ℕ) → s ≡ reading_after l s0 (take i bs)
    → IsRun l s (take n (drop i bs)) (drop n (drop i bs)) t → t ≡ reading_after l s0 (take (i + n) bs)
run_after l s0 s t bs i n is run = sym run.read
    ∙ (ap (λ (x : Reading). reading_after l x (take n (drop i bs))) is
    ∙ (sym (after_more l s0 (take i bs) (take n (drop i bs))) ∙ ap (reading_after l s0) (sym (take-add i n bs))))

pub run_taken : (l : Limits) (s0 s t : Reading) (bs : List ℕ) (i n : ℕ) → taken_reading l s0 bs ≡ i + taken_reading l s (drop i bs)
    → IsRun l s (take n (drop i bs)) (drop n (drop i bs)) t → n ≤ length (drop i bs) → taken_reading l s0 bs ≡ (i + n) + taken_reading l t (drop (i + n) bs)
run_taken l s0 s t bs i n is run fits =
    is ∙ (ap (λ (xs : List ℕ). i + taken_reading l s xs) (sym (take-append-drop n (drop i bs)))
    ∙ (ap (λ (x : ℕ). i + x) run.rest ∙ (ap (λ (x : ℕ). i + (x + taken_reading l t (drop n (drop i bs)))) (length-take-le n (drop i bs) fits)
    ∙ (ap (λ (xs : List ℕ). i + (n + taken_reading l t xs)) (drop-drop n i bs) ∙ shift i n (taken_reading l t (drop (i + n) bs))))))
  where
    shift : (i n m : ℕ) → i + (n + m) ≡ (i + n) + m
    shift i n m = omega arith

-- the rest of a piece is told as a slice of it
pub run_here : (l l1 : Limits) (s t : Reading) (bs : List ℕ) (i n : ℕ) → l1 ≡ l
    → IsRun l1 s (take n (take (length bs - i) (drop i bs))) (drop n (take (length bs - i) (drop i bs))) t
    → IsRun l s (take n (drop i bs)) (drop n (drop i bs)) t
run_here l l1 s t bs i n e run =
    subst (λ (xs : List ℕ). IsRun l s (take n xs) (drop n xs) t) (take_rest bs i)
    (subst (λ (x : Limits). IsRun x s (take n (take (length bs - i) (drop i bs))) (drop n (take (length bs - i) (drop i bs))) t) e run)
