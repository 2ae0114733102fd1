-- A script's play goes on by a line, or stops there.
use Rattle.std.proofs.Common.{◌≡◌, ℕ, suc, ◌+◌, ◌^◌, ◌<◌, ◌≤◌, List, [], ◌∷◌, ◌++◌, length, length-append, arith}
use Rattle.std.proofs.Common.{refl, sym, ap, subst, ◌∙◌, append_assoc, append-nil, inl, inr}
use Rattle.std.specs.Prelude.{map, Option, Some, None}
use Rattle.std.proofs.lemmas.List.{map-append}
use Rattle.std.proofs.lemmas.Grind.{flat_map-append}
use Rattle.house_model.specs.States.{State, Kept}
use Rattle.house_model.specs.Histories.{Turn, next, after, StandsFor}
use Rattle.house_model.proofs.SafeLaws.{safe}
use Rattle.house_model.proofs.Turns.{turns-counted, workers-kept}
use Rattle.replay_script.specs.declared.step.Step.{Step}
use Rattle.replay_script.specs.declared.step.Step.TheVariants as step
use Rattle.replay_script.specs.Lines.{step_of}
use Rattle.replay_script.specs.Deeds.{Deed, Turned, Fed, Renewed, Framers, IsDone, AreDone, step_at, turn_in, turns_of}
use Rattle.replay_script.specs.Deeds.{no_framers, framers_next, framers_after, print_deed, prints_from, prints}
use Rattle.replay_script.specs.Scripts.{Spells, AreWithin, IsWithin, IsPlayed, MayCome, IsOutside, lines_of, size_of, step_in}
use Rattle.replay_script.proofs.Printing.{prints_are}
use Rattle.script_play.specs.declared.status.Status.{Status}
use Rattle.script_play.specs.declared.status.Status.TheVariants as status
use Rattle.script_play.specs.Readings.{TakesLine, Ends, unread}
use Rattle.script_play.specs.Runs.{Front, Replayed, Along, Going, Stopping, MayComeHere, PlaysLine}

-- one line more
spells-push : (lines : List (List ℕ)) (o : State) (ds : List Deed) (line : List ℕ) (d : Deed) → 0 < length lines → Spells lines o ds
    → step_in line ≡ step_at d → Spells (lines ++ line ∷ []) o (ds ++ d ∷ [])
spells-push [] o ds line d some spelt is = absurd (omega arith)
spells-push (first ∷ more) o ds line d some spelt is = (
  spelt.0,
  map-append step_in more (line ∷ [])
      ∙ ap (λ (s : Option Step). map step_in more ++ s ∷ []) is
      ∙ ap (λ steps. steps ++ step_at d ∷ []) spelt.1
      ∙ sym (map-append step_at ds (d ∷ [])),
)

done-push : (o : State) (ds : List Deed) (d : Deed) → AreDone o ds → IsDone (after o (turns_of ds)) d → AreDone o (ds ++ d ∷ [])
done-push o [] d all one = (one, tt)
done-push o (Turned x ∷ ds) d all one = (all.0, done-push (next o x) ds d all.1 one)
done-push o (Fed w bytes ∷ ds) d all one = (all.0, done-push o ds d all.1 one)
done-push o (Renewed w ∷ ds) d all one = (all.0, done-push o ds d all.1 one)

turns-push : (ds : List Deed) (d : Deed) → turns_of (ds ++ d ∷ []) ≡ turns_of ds ++ turn_in d
turns-push ds d = flat_map-append turn_in ds (d ∷ []) ∙ ap (λ (h : List Turn). turns_of ds ++ h) (append-nil (turn_in d))

framers-push : (fs : Framers) (ds : List Deed) (d : Deed) → framers_after fs (ds ++ d ∷ []) ≡ framers_next (framers_after fs ds) d
framers-push fs [] d = refl
framers-push fs (e ∷ ds) d = framers-push (framers_next fs e) ds d

prints-push-from : (fs : Framers) (ds : List Deed) (d : Deed) → prints_from fs (ds ++ d ∷ []) ≡ prints_from fs ds ++ print_deed (framers_after fs ds) d
prints-push-from fs [] d = append-nil (print_deed fs d)
prints-push-from fs (e ∷ ds) d =
    ap (λ bytes. print_deed fs e ++ bytes) (prints-push-from (framers_next fs e) ds d)
    ∙ sym (append_assoc (print_deed fs e) (prints_from (framers_next fs e) ds) (print_deed (framers_after (framers_next fs e) ds) d))

within-push : (read : ℕ) (lines : List (List ℕ)) (line : List ℕ) → AreWithin read lines → IsWithin (read + size_of lines) line
    → AreWithin read (lines ++ line ∷ [])
within-push read [] line within one = (subst (λ (n : ℕ). IsWithin n line) (omega arith) one, tt)
within-push read (first ∷ more) line within one =
    (within.0, within-push (read + length first) more line within.1 (subst (λ (n : ℕ). IsWithin n line) (omega arith) one))

size-push : (lines : List (List ℕ)) (line : List ℕ) → size_of (lines ++ line ∷ []) ≡ size_of lines + length line
size-push [] line = omega arith
size-push (first ∷ more) line = omega (arith, size-push more line)

prints-push : (framers : Framers) (ds : List Deed) (d : Deed) → framers ≡ framers_after no_framers ds
    → prints (ds ++ d ∷ []) ≡ prints ds ++ print_deed framers d
prints-push framers ds d is = prints-push-from no_framers ds d ∙ ap (λ (fs : Framers). prints ds ++ print_deed fs d) (sym is)

pub along-on : (left coming coming_now : Option (List ℕ)) (given given_now : ℕ) (house house_now : Kept) (framers framers_now : Framers) (number : ℕ)
    (text out : List ℕ) (lines : List (List ℕ)) (start : State) (deeds : List Deed)
    → Along left coming given house framers number lines start deeds → (t : TakesLine coming coming_now given given_now text)
    → (p : PlaysLine house house_now framers framers_now text out)
    → Along left coming_now given_now house_now framers_now (number + 1) (lines ++ t.line ∷ []) start (deeds ++ p.plays.deed ∷ [])
along-on left coming coming_now given given_now house house_now framers framers_now number text out lines start deeds a t p = record {
  stands = subst (λ (h : List Turn). StandsFor start h house_now) (sym (turns-push deeds p.plays.deed)) (p.plays.stands start (turns_of deeds) a.stands);
  framed = p.plays.framed ∙ (ap (λ (fs : Framers). framers_next fs p.plays.deed) a.framed ∙ sym (framers-push no_framers deeds p.plays.deed));
  spelt = spells-push lines start deeds t.line p.plays.deed a.some a.spelt (ap step_of (sym t.text_is) ∙ (p.spelt ∙ p.plays.spelt));
  done = done-push start deeds p.plays.deed a.done (p.plays.done start (turns_of deeds) a.stands);
  within = within-push 0 lines t.line a.within (subst (λ (n : ℕ). IsWithin n t.line) (a.size ∙ omega arith) t.within);
  some = omega (arith, length-append lines (t.line ∷ []));
  each = omega (arith, length-append lines (t.line ∷ []), a.each, t.given, t.some);
  most = omega (arith, t.given, t.within.script_is);
  size = omega (arith, size-push lines t.line, a.size, t.given);
  count = omega (arith, length-append lines (t.line ∷ []), a.count);
  read = λ all told.
      let old = a.read all told in
      let next = t.first old.0 old.1.0 in
      (next.0, (next.1.0, old.1.1 ∙ ap (λ more. lines ++ more) next.1.1 ∙ sym (append_assoc lines (t.line ∷ []) (lines_of next.0))));
}

pub turns-few : (left coming took took_now : Option (List ℕ)) (given : ℕ) (house : Kept) (framers : Framers) (number : ℕ)
    → Going left coming took took_now given house framers number → house.head.turns < 2 ^ 63
turns-few left coming took took_now given house framers number g =
    let a = g.along in
    let counted = turns-counted g.start (turns_of g.deeds) house a.stands in
    let few = length-spelt g.lines g.start g.deeds a.spelt in
    less house.head.turns (length (turns_of g.deeds)) (length g.lines) given counted few a.each a.most
  where
    length-map : {X Y : Type 0} (f : X → Y) (xs : List X) → length (map f xs) ≡ length xs
    length-map f [] = refl
    length-map f (x ∷ more) = ap suc (length-map f more)

    turns-long : (ds : List Deed) → length (turns_of ds) ≤ length ds
    turns-long [] = omega arith
    turns-long (Turned x ∷ ds) = let e = turns-long ds in omega (arith, e)
    turns-long (Fed w bytes ∷ ds) = let e = turns-long ds in omega (arith, e)
    turns-long (Renewed w ∷ ds) = let e = turns-long ds in omega (arith, e)

    length-spelt : (lines : List (List ℕ)) (o : State) (ds : List Deed) → Spells lines o ds → length (turns_of ds) ≤ length lines
    length-spelt [] o ds spelt = omega (arith, ap length spelt, turns-long ds)
    length-spelt (first ∷ more) o ds spelt = omega (arith, ap length spelt.1, length-map step_in more, length-map step_at ds, turns-long ds)

    less : (a b c d : ℕ) → a ≡ b → b ≤ c → c ≤ d → d ≤ 1073741824 → a < 2 ^ 63
    less a b c d same few each most = omega (arith, same, few, each, most)

-- what was written once one more print was
pub written-on : (took : Option (List ℕ)) (before now : Option (List ℕ)) (framers : Framers) (ds : List Deed) (d : Deed) (out : List ℕ)
    → framers ≡ framers_after no_framers ds
    → ((taken : List ℕ) → took ≡ Some taken → before ≡ Some (taken ++ prints ds)) → ((taken : List ℕ) → before ≡ Some taken → now ≡ Some (taken ++ out))
    → out ≡ print_deed framers d → (taken : List ℕ) → took ≡ Some taken → now ≡ Some (taken ++ prints (ds ++ d ∷ []))
written-on took before now framers ds d out framed old added is taken told =
    added (taken ++ prints ds) (old taken told)
    ∙ ap Some (append_assoc taken (prints ds) out ∙ ap (λ bytes. taken ++ bytes) (ap (λ bytes. prints ds ++ bytes) is ∙ sym (prints-push framers ds d framed)))

pub going-on : (left coming coming_now took before now : Option (List ℕ)) (given given_now : ℕ) (house house_now : Kept) (framers framers_now : Framers)
    (number : ℕ) (text out : List ℕ)
    → Going left coming took before given house framers number → TakesLine coming coming_now given given_now text
    → PlaysLine house house_now framers framers_now text out
    → ((taken : List ℕ) → before ≡ Some taken → now ≡ Some (taken ++ out)) → Going left coming_now took now given_now house_now framers_now (number + 1)
going-on left coming coming_now took before now given given_now house house_now framers framers_now number text out g t p added = record {
  lines = g.lines ++ t.line ∷ [];
  start = g.start;
  deeds = g.deeds ++ p.plays.deed ∷ [];
  along = along-on left coming coming_now given given_now house house_now framers framers_now number text out g.lines g.start g.deeds g.along t p;
  written = written-on took before now framers g.deeds p.plays.deed out g.along.framed g.written added p.plays.printed;
}

played : (left coming : Option (List ℕ)) (given : ℕ) (house : Kept) (framers : Framers) (number : ℕ) (lines : List (List ℕ)) (start : State) (deeds : List Deed)
    → Along left coming given house framers number lines start deeds → IsPlayed lines start deeds
played left coming given house framers number lines start deeds a =
    record { starts = a.stands.starts; legal = a.stands.legal; spelt = a.spelt; done = a.done; within = a.within }

pub unread-none : (held : List ℕ) (o : Option (List ℕ)) → unread held o ≡ Some [] → o ≡ Some []
unread-none held None h = absurd (cc)
unread-none [] (Some left) h = h
unread-none (b ∷ more) (Some left) h = absurd (empty (b ∷ more ++ left) h)
  where
    first : Option (List ℕ) → ℕ
    first None = 0
    first (Some []) = 0
    first (Some (x ∷ xs)) = 1

    empty : (xs : List ℕ) → Some (b ∷ more ++ left) ≡ Some [] → ⊥
    empty xs e = let n : 1 ≡ 0 = ap first e in omega (arith, n)

-- the end of the script
pub stop-done : (left coming : Option (List ℕ)) (held : List ℕ) (left_now took now : Option (List ℕ)) (given : ℕ) (house : Kept) (framers : Framers)
    (number : ℕ)
    → Going left coming took now given house framers number → Ends coming (unread held left_now) → Replayed left left_now took now status.Done
stop-done left coming held left_now took now given house framers number g ends = record {
  lines = g.lines;
  start = g.start;
  deeds = g.deeds;
  played = played left coming given house framers number g.lines g.start g.deeds g.along;
  safe =
      safe g.start (turns_of g.deeds) g.along.stands.starts g.along.stands.legal;
  number = tt;
  read = λ all told.
      let old = g.along.read all told in
      let end = ends old.0 old.1.0 in
      ([], (old.1.1 ∙ ap (λ more. g.lines ++ lines_of more) end.0, (refl, unread-none held left_now end.1)));
  out = prints g.deeds;
  are_prints = prints_are g.deeds;
  written = g.written;
}

-- no line could be taken
pub stop-taking : (left coming left_now took now : Option (List ℕ)) (given : ℕ) (house : Kept) (framers : Framers) (number : ℕ) (s : Status)
    → Going left coming took now given house framers number → Stopping s coming given number → Replayed left left_now took now s
stop-taking left coming left_now took now given house framers number status.Done g stop = absurd stop
stop-taking left coming left_now took now given house framers number (status.Script n) g stop = record {
  lines = g.lines;
  start = g.start;
  deeds = g.deeds;
  played = played left coming given house framers number g.lines g.start g.deeds g.along;
  safe =
      safe g.start (turns_of g.deeds) g.along.stands.starts g.along.stands.legal;
  number = stop.0 ∙ g.along.count;
  read = λ all told.
      let old = g.along.read all told in
      let passes = stop.1 old.0 old.1.0 in (
        lines_of old.0,
        (
          old.1.1,
          (passes.0, (passes.1.0, (passes.1.1.0, inl (λ within. passes.1.1.1 (subst (λ (m : ℕ). IsWithin m passes.0) (sym g.along.size) within))))),
        ),
      );
  out = prints g.deeds;
  are_prints = prints_are g.deeds;
  written = g.written;
}
stop-taking left coming left_now took now given house framers number status.ReadFault g stop = record {
  lines = g.lines;
  start = g.start;
  deeds = g.deeds;
  played = played left coming given house framers number g.lines g.start g.deeds g.along;
  safe =
      safe g.start (turns_of g.deeds) g.along.stands.starts g.along.stands.legal;
  number = tt;
  read = λ all told. let old = g.along.read all told in (lines_of old.0, (old.1.1, tt));
  out = prints g.deeds;
  are_prints = prints_are g.deeds;
  written = g.written;
}
stop-taking left coming left_now took now given house framers number status.WriteFault g stop = absurd stop
stop-taking left coming left_now took now given house framers number status.NoMemory g stop = record {
  lines = g.lines;
  start = g.start;
  deeds = g.deeds;
  played = played left coming given house framers number g.lines g.start g.deeds g.along;
  safe =
      safe g.start (turns_of g.deeds) g.along.stands.starts g.along.stands.legal;
  number = tt;
  read = λ all told. let old = g.along.read all told in (lines_of old.0, (old.1.1, tt));
  out = prints g.deeds;
  are_prints = prints_are g.deeds;
  written = g.written;
}
stop-taking left coming left_now took now given house framers number status.Usage g stop = absurd stop
stop-taking left coming left_now took now given house framers number (status.Accounts n) g stop = absurd stop
stop-taking left coming left_now took now given house framers number status.ListenFault g stop = absurd stop

outside-later : (lines : List (List ℕ)) (o : State) (ds : List Deed) (line : List ℕ) → 0 < length lines
    → ((s : Step) → step_in line ≡ Some s → MayCome (after o (turns_of ds)) s → ⊥) → IsOutside lines o ds line
outside-later [] o ds line some never = absurd (omega arith)
outside-later (first ∷ more) o ds line some never = never

-- what may come by the machine may come by what is kept
may-come : (o : State) (h : List Turn) (house : Kept) (s : Step) → StandsFor o h house → MayCome (after o h) s → MayComeHere house s
may-come o h house (step.Begin domain users workers) stands may = may
may-come o h house (step.Event e) stands may = omega (arith, may, workers-kept o h house stands)
may-come o h house (step.Feed w bytes) stands may = omega (arith, may, workers-kept o h house stands)
may-come o h house (step.Fresh w) stands may = omega (arith, may, workers-kept o h house stands)

-- the line can't be played
pub stop-bad : (left coming coming_now left_now took now : Option (List ℕ)) (given given_now : ℕ) (house : Kept) (framers : Framers) (number : ℕ)
    (text : List ℕ)
    → Going left coming took now given house framers number → TakesLine coming coming_now given given_now text
    → ((s : Step) → step_of text ≡ Some s → MayComeHere house s → ⊥)
    → Replayed left left_now took now (status.Script number)
stop-bad left coming coming_now left_now took now given given_now house framers number text g t never = record {
  lines = g.lines;
  start = g.start;
  deeds = g.deeds;
  played = played left coming given house framers number g.lines g.start g.deeds g.along;
  safe =
      safe g.start (turns_of g.deeds) g.along.stands.starts g.along.stands.legal;
  number = g.along.count;
  read = λ all told.
      let old = g.along.read all told in
      let first = t.first old.0 old.1.0 in (
        lines_of old.0,
        (
          old.1.1,
          (
            t.line,
            (
              lines_of first.0,
              (
                first.1.1,
                inr (outside-later g.lines g.start g.deeds t.line g.along.some (λ s is may.
                    never s (ap step_of t.text_is ∙ is) (may-come g.start (turns_of g.deeds) house s g.along.stands may))),
              ),
            ),
          ),
        ),
      );
  out = prints g.deeds;
  are_prints = prints_are g.deeds;
  written = g.written;
}

-- memory was wanting
pub stop-short : (left coming left_now took now : Option (List ℕ)) (given : ℕ) (house : Kept) (framers : Framers) (number : ℕ)
    → Going left coming took now given house framers number → Replayed left left_now took now status.NoMemory
stop-short left coming left_now took now given house framers number g =
    stop-taking left coming left_now took now given house framers number status.NoMemory g tt

-- a front of what comes after these prints
front-more : (taken first out : List ℕ) (now : Option (List ℕ)) → Front (taken ++ first) out now → Front taken (first ++ out) now
front-more taken first out None p = tt
front-more taken first out (Some told) p = (
  first ++ p.0,
  (
    p.1.0,
    (
      ap (λ xs. first ++ xs) p.1.1.0 ∙ sym (append_assoc first p.0 p.1.0),
      p.1.1.1 ∙ append_assoc taken first p.0,
    ),
  ),
)

-- the print of a turn was written in part
pub stop-writing : (left coming coming_now left_now took before now : Option (List ℕ)) (given given_now : ℕ) (house house_now : Kept)
    (framers framers_now : Framers) (number : ℕ) (text out : List ℕ)
    → Going left coming took before given house framers number → TakesLine coming coming_now given given_now text
    → PlaysLine house house_now framers framers_now text out
    → ((taken : List ℕ) → before ≡ Some taken → Front taken out now) → Replayed left left_now took now status.WriteFault
stop-writing left coming coming_now left_now took before now given given_now house house_now framers framers_now number text out g t p front = record {
  lines = g.lines ++ t.line ∷ [];
  start = g.start;
  deeds = g.deeds ++ p.plays.deed ∷ [];
  played = played left coming_now given_now house_now framers_now (number + 1) (g.lines ++ t.line ∷ []) g.start (g.deeds ++ p.plays.deed ∷ [])
      (along-on left coming coming_now given given_now house house_now framers framers_now number text out g.lines g.start g.deeds g.along t p);
  safe =
      let next = along-on left coming coming_now given given_now house house_now framers framers_now number text out g.lines g.start g.deeds g.along t p in
      safe g.start (turns_of (g.deeds ++ p.plays.deed ∷ [])) next.stands.starts next.stands.legal;
  number = tt;
  read = λ all told.
      let old = (along-on left coming coming_now given given_now house house_now framers framers_now number text out g.lines g.start g.deeds g.along t p).read
      all told in
      (lines_of old.0, (old.1.1, tt));
  out = prints (g.deeds ++ p.plays.deed ∷ []);
  are_prints = prints_are (g.deeds ++ p.plays.deed ∷ []);
  written = λ taken told.
      subst (λ xs. Front taken xs now)
      (ap (λ bytes. prints g.deeds ++ bytes) p.plays.printed ∙ sym (prints-push framers g.deeds p.plays.deed g.along.framed))
      (front-more taken (prints g.deeds) out now (front (taken ++ prints g.deeds) (g.written taken told)));
}
