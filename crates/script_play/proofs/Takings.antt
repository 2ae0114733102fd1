-- What a reader takes, from what it gave on byte by byte.
use Rattle.std.proofs.Common.{◌≡◌, ℕ, ◌+◌, ◌<◌, ◌≤◌, List, [], ◌∷◌, ◌++◌, ◌-◌, take, drop, length, length-append, arith, refl, sym, ap, subst, ◌∙◌, append_assoc, append-nil}
use Rattle.std.proofs.lemmas.List.{length-take, length-take-le, take-append-drop, drop-take, drop-drop}
use Rattle.std.specs.Prelude.{Option, Some, None}
use Rattle.replay_script.specs.Scripts.{lines_of, text_of}
use Rattle.script_play.specs.Readings.{Reading, unread, Begins, Ends, MovesRun, TakesLine, PassesLimit}
use Rattle.script_play.proofs.Feeds.{NoFeed, plain_run, lines_feed, text_feed, lines_last, text_last, lines_front, lines_long, text_front}

pub begins_more : (old mid now : Option (List ℕ)) (line : List ℕ) (b : ℕ) → Begins old mid line → Begins mid now (b ∷ []) → Begins old now (line ++ b ∷ [])
begins_more old mid now line b begins gives = λ all told.
    let first = begins all told in
    let next = gives first.0 first.1.0 in
    (next.0, (next.1.0, first.1.1 ∙ ap (λ xs. line ++ xs) next.1.1 ∙ sym (append_assoc line (b ∷ []) next.0)))

-- what a piece holds, where so many of its bytes are moved
pub moves_run : (piece : List ℕ) (from to count given : ℕ) (before : List ℕ) → count ≤ length (take (to - from) (drop from piece))
    → text_of (take count (take (to - from) (drop from piece))) ≡ take count (take (to - from) (drop from piece))
    → MovesRun (record { held = take (to - from) (drop from piece); given = given })
    (record { held = take (to - (from + count)) (drop (from + count) piece); given = given + count })
    before (before ++ take count (take (to - from) (drop from piece)))
moves_run piece from to count given before fits plain =
    let rest : List ℕ = drop from piece in
    let held : List ℕ = take (to - from) rest in
    let left : ℕ = to - (from + count) in
    let all : to - from ≡ count + left = omega (arith, fits, length-take (to - from) rest) in
    let later : drop count held ≡ take left (drop (from + count) piece) =
    ap (λ n. drop count (take n rest)) all ∙ (drop-take count left rest ∙ ap (take left) (drop-drop count from piece)) in record {
      run = take count held;
      plain = plain;
      held = sym (take-append-drop count held) ∙ ap (λ xs. take count held ++ xs) later;
      line = refl;
      given = ap (λ n. given + n) (sym (length-take-le count held fits));
    }

-- the line, and what is still to come, once bytes that were held were moved
pub record Stands (old now : Option (List ℕ)) (before after : ℕ) (line : List ℕ) : Type 0 where
  pub plain : NoFeed line
  pub given : after ≡ before + length line
  pub begins : Begins old now line

begins-run : (old left : Option (List ℕ)) (held now line run : List ℕ) → held ≡ run ++ now → Begins old (unread held left) line
    → Begins old (unread now left) (line ++ run)
begins-run old None held now line run is begins = λ all told.
    let bad = (begins all told).1.0 in absurd (none-some (begins all told).0 bad)
  where
    none-some : (rest : List ℕ) → None ≡ Some rest → ⊥
    none-some rest e = cc
begins-run old (Some left) held now line run is begins = λ all told.
    let first = begins all told in (
      now ++ left,
      (
        refl,
        first.1.1
            ∙ (ap (λ xs. line ++ xs) (some-same first.0 (held ++ left) first.1.0 ∙ (ap (λ xs. xs ++ left) is ∙ append_assoc run now left))
            ∙ sym (append_assoc line run (now ++ left))),
      ),
    )
  where
    some-same : (rest whole : List ℕ) → Some whole ≡ Some rest → rest ≡ whole
    some-same rest whole e = cc

pub stands_on : (old left : Option (List ℕ)) (held now : Reading) (before : ℕ) (line longer : List ℕ) → NoFeed line → held.given ≡ before + length line
    → Begins old (unread held.held left) line → MovesRun held now line longer → Stands old (unread now.held left) before now.given longer
stands_on old left held now before line longer plain given begins moves = record {
  plain = subst NoFeed (sym moves.line) (plain_run line moves.run plain moves.plain);
  given = omega (arith, given, moves.given, ap length moves.line, length-append line moves.run);
  begins = subst (Begins old (unread now.held left)) (sym moves.line) (begins-run old left held.held now.held line moves.run moves.held begins);
}

pub taken_last : (old mid now : Option (List ℕ)) (before after : ℕ) (line : List ℕ) → NoFeed line → 0 < length line → length line ≤ 200000
    → after ≡ before + length line → after ≤ 1073741824 → Begins old mid line → Ends mid now → TakesLine old now before after line
taken_last old mid now before after line plain some short given most begins ends = record {
  line = line;
  text_is = sym (text_last line plain);
  some = some;
  within = record { line_is = omega (arith, short, ap length (text_last line plain)); script_is = omega (arith, given, most) };
  given = given;
  first = λ all told.
      let first = begins all told in
      let end = ends first.0 first.1.0 in
      ([], (end.1, ap lines_of (first.1.1 ∙ ap (λ xs. line ++ xs) end.0 ∙ append-nil line) ∙ lines_last line plain some));
}

pub taken_feed : (old mid now : Option (List ℕ)) (before after : ℕ) (line : List ℕ) → NoFeed line → length line ≤ 200000
    → after ≡ before + length line + 1 → after ≤ 1073741824 → Begins old mid line → Begins mid now (10 ∷ []) → TakesLine old now before after line
taken_feed old mid now before after line plain short given most begins gives = record {
  line = line ++ 10 ∷ [];
  text_is = sym (text_feed line plain);
  some = omega (arith, length-append line (10 ∷ []));
  within = record { line_is = omega (arith, short, ap length (text_feed line plain)); script_is = omega (arith, given, most, length-append line (10 ∷ [])) };
  given = omega (arith, given, length-append line (10 ∷ []));
  first = λ all told.
      let first = begins all told in
      let next = gives first.0 first.1.0 in
      (next.0, (next.1.0, ap lines_of (first.1.1 ∙ ap (λ xs. line ++ xs) next.1.1) ∙ lines_feed line next.0 plain));
}

pub passes_script : (old mid now : Option (List ℕ)) (before : ℕ) (line : List ℕ) (b : ℕ) → NoFeed line → 1073741824 ≤ before + length line
    → Begins old mid line → Begins mid now (b ∷ []) → PassesLimit old before
passes_script old mid now before line b plain full begins gives = λ all told.
    let first = begins all told in
    let next = gives first.0 first.1.0 in
    let front = lines_front line b next.0 plain in (
      line ++ b ∷ front.0,
      (
        front.1.0,
        (
          ap lines_of (first.1.1 ∙ ap (λ xs. line ++ xs) next.1.1) ∙ front.1.1,
          λ within. absurd (longer line b front.0 before full within.script_is),
        ),
      ),
    )
  where
    longer : (line : List ℕ) (b : ℕ) (more : List ℕ) (before : ℕ) → 1073741824 ≤ before + length line → before + length (line ++ b ∷ more) ≤ 1073741824 → ⊥
    longer line b more before full within = omega (arith, full, within, length-append line (b ∷ more))

pub passes_line : (old mid : Option (List ℕ)) (before : ℕ) (line : List ℕ) → NoFeed line → 200000 < length line → Begins old mid line → PassesLimit old before
passes_line old mid before line plain long begins = λ all told.
    let first = begins all told in
    let front = lines_long line first.0 plain (omega (arith, long)) in (
      line ++ front.0,
      (
        front.1.0,
        (
          ap lines_of first.1.1 ∙ front.1.1,
          λ within. absurd (longer (length line) (length (text_of (line ++ front.0))) long (text_front line front.0 plain) within.line_is),
        ),
      ),
    )
  where
    longer : (a b : ℕ) → 200000 < a → a ≤ b → b ≤ 200000 → ⊥
    longer a b long more within = omega (arith, long, more, within)
