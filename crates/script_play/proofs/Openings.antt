-- The first line of a script, before which nothing was played.
use Rattle.std.proofs.Common.{◌≡◌, ℕ, List, [], ◌∷◌, ◌++◌, arith, refl, sym, ap, subst, ◌∙◌, append-nil, inl, inr}
use Rattle.std.specs.Prelude.{Option, Some, None}
use Rattle.house_model.specs.Sessions.{nobody}
use Rattle.house_model.specs.States.{State, Kept, opening, usual}
use Rattle.house_model.specs.Histories.{StandsFor}
use Rattle.house_model.proofs.SafeLaws.{safe}
use Rattle.replay_script.specs.Deeds.{no_framers}
use Rattle.replay_script.specs.Scripts.{Makes, IsPlayed, lines_of}
use Rattle.script_play.specs.declared.status.Status.{Status}
use Rattle.script_play.specs.declared.status.Status.TheVariants as status
use Rattle.script_play.specs.Readings.{TakesLine, Ends, unread}
use Rattle.script_play.specs.Runs.{Replayed, Going, Stopping}
use Rattle.script_play.proofs.Plays.{unread-none}

unread-nil : (o : Option (List ℕ)) → unread [] o ≡ o
unread-nil None = refl
unread-nil (Some left) = refl

none-played : IsPlayed [] (opening nobody [] 0) []
none-played = record { starts = (usual, nobody, [], 0, refl); legal = tt; spelt = refl; done = tt; within = tt }

none-written : (took : Option (List ℕ)) (taken : List ℕ) → took ≡ Some taken → took ≡ Some (taken ++ [])
none-written took taken told = told ∙ ap Some (sym (append-nil taken))

pub first-done : (left left_now took : Option (List ℕ)) (held : List ℕ) → Ends (unread [] left) (unread held left_now)
    → Replayed left left_now took took status.Done
first-done left left_now took held ends = record {
  lines = [];
  start = opening nobody [] 0;
  deeds = [];
  played = none-played;
  safe =
      safe (opening nobody [] 0) [] none-played.starts none-played.legal;
  number = tt;
  read = λ all told.
      let end = ends all (unread-nil left ∙ told) in
      ([], (ap lines_of end.0, (refl, unread-none held left_now end.1)));
  out = [];
  are_prints = refl;
  written = none-written took;
}

pub first-taking : (left left_now took : Option (List ℕ)) (s : Status) → Stopping s (unread [] left) 0 1 → Replayed left left_now took took s
first-taking left left_now took status.Done stop = absurd stop
first-taking left left_now took (status.Script n) stop = record {
  lines = [];
  start = opening nobody [] 0;
  deeds = [];
  played = none-played;
  safe =
      safe (opening nobody [] 0) [] none-played.starts none-played.legal;
  number = stop.0;
  read = λ all told.
      let passes = stop.1 all (unread-nil left ∙ told) in
      (lines_of all, (refl, (passes.0, (passes.1.0, (passes.1.1.0, inl passes.1.1.1)))));
  out = [];
  are_prints = refl;
  written = none-written took;
}
first-taking left left_now took status.ReadFault stop = record {
  lines = [];
  start = opening nobody [] 0;
  deeds = [];
  played = none-played;
  safe =
      safe (opening nobody [] 0) [] none-played.starts none-played.legal;
  number = tt;
  read = λ all told. (lines_of all, (refl, tt));
  out = [];
  are_prints = refl;
  written = none-written took;
}
first-taking left left_now took status.WriteFault stop = absurd stop
first-taking left left_now took status.NoMemory stop = record {
  lines = [];
  start = opening nobody [] 0;
  deeds = [];
  played = none-played;
  safe =
      safe (opening nobody [] 0) [] none-played.starts none-played.legal;
  number = tt;
  read = λ all told. (lines_of all, (refl, tt));
  out = [];
  are_prints = refl;
  written = none-written took;
}
first-taking left left_now took status.Usage stop = absurd stop
first-taking left left_now took (status.Accounts n) stop = absurd stop
first-taking left left_now took status.ListenFault stop = absurd stop

pub first-bad : (left coming_now left_now took : Option (List ℕ)) (given_now : ℕ) (text : List ℕ) → TakesLine (unread [] left) coming_now 0 given_now text
    → ((o : State) → Makes text o → ⊥) → Replayed left left_now took took (status.Script 1)
first-bad left coming_now left_now took given_now text t never = record {
  lines = [];
  start = opening nobody [] 0;
  deeds = [];
  played = none-played;
  safe =
      safe (opening nobody [] 0) [] none-played.starts none-played.legal;
  number = refl;
  read = λ all told.
      let first = t.first all (unread-nil left ∙ told) in
      (lines_of all, (refl, (t.line, (lines_of first.0, (first.1.1, inr (λ o makes. never o (subst (λ x. Makes x o) (sym t.text_is) makes)))))));
  out = [];
  are_prints = refl;
  written = none-written took;
}

pub first-short : (left left_now took : Option (List ℕ)) → Replayed left left_now took took status.NoMemory
first-short left left_now took = first-taking left left_now took status.NoMemory tt

pub first-going : (left coming_now took : Option (List ℕ)) (given_now : ℕ) (text : List ℕ) (house : Kept) (o : State)
    → TakesLine (unread [] left) coming_now 0 given_now text → Makes text o → StandsFor o [] house
    → Going left coming_now took took given_now house no_framers 2
first-going left coming_now took given_now text house o t makes stands = record {
  lines = t.line ∷ [];
  start = o;
  deeds = [];
  along = record {
    stands = stands;
    framed = refl;
    spelt = (subst (λ x. Makes x o) t.text_is makes, refl);
    done = tt;
    within = (t.within, tt);
    some = omega arith;
    each = omega (arith, t.given, t.some);
    most = omega (arith, t.given, t.within.script_is);
    size = omega (arith, t.given);
    count = refl;
    read = λ all told.
        let first = t.first all (unread-nil left ∙ told) in
        (first.0, (first.1.0, first.1.1));
  };
  written = none-written took;
}

-- The same of a reader that holds nothing and has given on nothing.
pub fresh-ends : (left now : Option (List ℕ)) (held : List ℕ) → held ≡ [] → Ends (unread held left) now → Ends (unread [] left) now
fresh-ends left now held none ends = subst (λ h. Ends (unread h left) now) none ends

pub fresh-stopping : (left : Option (List ℕ)) (held : List ℕ) (given : ℕ) (s : Status) → held ≡ [] → given ≡ 0 → Stopping s (unread held left) given 1
    → Stopping s (unread [] left) 0 1
fresh-stopping left held given s none zero stop =
    subst (λ h. Stopping s (unread h left) 0 1) none (subst (λ (n : ℕ). Stopping s (unread held left) n 1) zero stop)

pub fresh-line : (left now : Option (List ℕ)) (held : List ℕ) (given given_now : ℕ) (text : List ℕ) → held ≡ [] → given ≡ 0
    → TakesLine (unread held left) now given given_now text
    → TakesLine (unread [] left) now 0 given_now text
fresh-line left now held given given_now text none zero t =
    subst (λ h. TakesLine (unread h left) now 0 given_now text) none (subst (λ (n : ℕ). TakesLine (unread held left) now n given_now text) zero t)
