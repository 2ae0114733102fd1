-- The session of the notes, state by state: a state is written out, so that nothing is computed twice.
use Rattle.std.proofs.Common.{◌≡◌, inl, ℕ, ◌+◌, ◌≤◌, List, [], ◌∷◌, ◌++◌, length, Some, Bool, true, false, refl, sym, ap, ◌∙◌, subst, arith, if◌then◌else◌}
use Rattle.std.specs.Prelude.{◌&&◌, nat_le}
use Rattle.std.proofs.lemmas.Bool.{le-leb, lt-ltb}
use Rattle.stanza_tree.specs.declared.frame.Entry.{Entry}
use Rattle.stanza_tree.specs.Entries.{frame}
use Rattle.sm_counters.specs.Numbers.{number}
use Rattle.sm_counters.proofs.CountLaws.{number-is}
use Rattle.sm_queue.specs.Queues.{frames_length, has_room, most_bytes}
use Rattle.sm_queue.proofs.WholeLemmas.{frames_of_cons}
use Rattle.sm_account.specs.Sessions as one
use Rattle.sm_account.specs.Sessions.{Hold, Held, Away, Core, Op, Push, Pull, Enable, Drop, Resume, Act, acted, named}
use Rattle.sm_account.specs.Connections.{Connection, Session, connections, start, step, run}
use Rattle.sm_account.specs.Accounts.{AllConnectionsFit, AllOperationsFit, IsAccount, ResumesIf, handled}
use Rattle.sm_account.specs.Stories.{notes, notes_sent, reader}
use Rattle.sm_account.proofs.Steps.{resumed_by}

-- a number in a window is the one with its count
pub is_number : (q n : ℕ) → n ≤ q → q ≤ 5000 → number 0 q n ≡ Some n
is_number q n low small =
    number-is 0 q n n (omega arith) (record { low = omega arith; high = low; count = omega arith })

room : (queued : List Entry) (e : Entry) → length queued ≤ 2 → frames_length queued + length (frame e) ≤ most_bytes
    → has_room queued e ≡ true
room queued e few small =
    let bytes : ℕ = frames_length queued + length (frame e) in
    ap (λ (b : Bool). b && nat_le bytes most_bytes) (lt-ltb (length queued) 5000 (omega arith))
    ∙ le-leb bytes most_bytes small

-- a queue has room for each of these notes, one after the other
pub record HaveRoom (early n1 n2 n3 : Entry) : Type 0 where
  pub zeroth : has_room [] early ≡ true
  pub first : has_room [] n1 ≡ true
  pub second : has_room (n1 ∷ []) n2 ≡ true
  pub third : has_room (n1 ∷ n2 ∷ []) n3 ≡ true

pub rooms : (early n1 n2 n3 : Entry) → frames_length (early ∷ n1 ∷ n2 ∷ n3 ∷ []) ≤ most_bytes → HaveRoom early n1 n2 n3
rooms early n1 n2 n3 fits =
    let none : frames_length [] ≡ 0 = refl in
    let four = frames_of_cons early (n1 ∷ n2 ∷ n3 ∷ []) in
    let three = frames_of_cons n1 (n2 ∷ n3 ∷ []) in
    let last_two = frames_of_cons n2 (n3 ∷ []) in
    let last_one = frames_of_cons n3 [] in
    let first_two = frames_of_cons n1 (n2 ∷ []) in
    let first_one = frames_of_cons n1 [] in
    let second_one = frames_of_cons n2 [] in
    record {
      zeroth = room [] early (omega arith) (omega arith);
      first = room [] n1 (omega arith) (omega arith);
      second = room (n1 ∷ []) n2 (omega arith) (omega arith);
      third = room (n1 ∷ n2 ∷ []) n3 (omega arith) (omega arith);
    }

module _ (S : Type 0) (c d : ℕ) (early n1 n2 n3 : Entry) (fits : HaveRoom early n1 n2 n3) where
  abbrev over : ℕ → List Entry → Connection S
  over n carried = record { number = n; carried = carried; arrived = []; short = false }

  -- before it counts
  abbrev new : List Entry → Session S
  new queued = record {
    core = record {
      counts = false;
      hold = Held c;
      queued = queued;
      kept = 0;
      sent = 0;
      asked_at = 0;
      base_out = 0;
      acts = [];
      base_in = 0;
    };
    trace = record { present = over c []; earlier = []; told = [] };
  }

  -- since it counts, with these entries queued after the early one
  abbrev having : Hold → List Entry → (kept sent : ℕ) → Core S
  having m queued kept sent = record {
    counts = true;
    hold = m;
    queued = early ∷ queued;
    kept = kept;
    sent = sent;
    asked_at = kept;
    base_out = 1;
    acts = [];
    base_in = 0;
  }

  abbrev at : Hold → List Entry → (kept sent : ℕ) → Connection S → List (Connection S) → Session S
  at m queued kept sent present earlier = record {
    core = having m queued kept sent;
    trace = record { present = present; earlier = earlier; told = [] };
  }

  abbrev queuing : List Entry → Session S
  queuing queued = at (Held c) queued 1 1 (over c []) []

  abbrev full : Session S
  full = queuing (n1 ∷ n2 ∷ n3 ∷ [])

  abbrev dropped : Session S
  dropped = at Away (n1 ∷ n2 ∷ n3 ∷ []) 1 4 (over c (n1 ∷ n2 ∷ n3 ∷ [])) []

  abbrev resumed : Session S
  resumed = at (Held d) (n1 ∷ n2 ∷ n3 ∷ []) 3 3 (over d []) (over c (n1 ∷ n2 ∷ n3 ∷ []) ∷ [])

  abbrev last : Session S
  last = at (Held d) (n1 ∷ n2 ∷ n3 ∷ []) 3 4 (over d (n3 ∷ [])) (over c (n1 ∷ n2 ∷ n3 ∷ []) ∷ [])

  early_push : step (new []) (Push early) ≡ new (early ∷ [])
  early_push = ap (λ (b : Bool). record {
    core = if b then (new (early ∷ [])).core else one.ended (new []).core;
    trace = (new []).trace;
  }) fits.zeroth

  pushes : (queued : List Entry) (e : Entry) → has_room queued e ≡ true
      → step (queuing queued) (Push e) ≡ queuing (queued ++ e ∷ [])
  pushes queued e is = ap (λ (b : Bool). record {
    core = if b then (queuing (queued ++ e ∷ [])).core else one.ended (queuing queued).core;
    trace = (queuing queued).trace;
  }) is

  first_push : step (queuing []) (Push n1) ≡ queuing (n1 ∷ [])
  first_push = pushes [] n1 fits.first

  second_push : step (queuing (n1 ∷ [])) (Push n2) ≡ queuing (n1 ∷ n2 ∷ [])
  second_push = pushes (n1 ∷ []) n2 fits.second

  third_push : step (queuing (n1 ∷ n2 ∷ [])) (Push n3) ≡ full
  third_push = pushes (n1 ∷ n2 ∷ []) n3 fits.third

  names_two : named dropped.core 2 ≡ Some 2
  names_two = is_number 3 2 (omega arith) (omega arith)

  resumes : step dropped (Resume d 2) ≡ resumed
  resumes = ap (resumed_by dropped d) names_two

  abbrev after_queuing : List (Op S)
  after_queuing = Pull ∷ Pull ∷ Pull ∷ Drop ∷ Resume d 2 ∷ Pull ∷ []

  abbrev after_early : List (Op S)
  after_early = Pull ∷ Enable ∷ Push n1 ∷ Push n2 ∷ Push n3 ∷ after_queuing

  notes_end : run start (notes c d early n1 n2 n3) ≡ last
  notes_end =
      ap (λ (s : Session S). run s after_early) early_push
      ∙ (ap (λ (s : Session S). run s (Push n2 ∷ Push n3 ∷ after_queuing)) first_push
      ∙ (ap (λ (s : Session S). run s (Push n3 ∷ after_queuing)) second_push
      ∙ (ap (λ (s : Session S). run s after_queuing) third_push
      ∙ ap (λ (s : Session S). run s (Pull ∷ [])) resumes)))

  resume_holds : ResumesIf reader dropped 0 2 2 (named dropped.core 2)
  resume_holds = subst (ResumesIf reader dropped 0 2 2) (sym names_two) (
    record {
      count = refl;
      known = inl refl;
      sent = (omega arith, tt);
      has = omega arith;
      near = omega arith;
      begins = is_number 0 0 (omega arith) (omega arith);
    },
    refl,
  )

  abbrev Holds : Session S → (said : ℕ) → List (Op S) → Type 0
  Holds s said ops = AllOperationsFit reader s said ops

  last_holds : Holds (step dropped (Resume d 2)) 2 (Pull ∷ [])
  last_holds = subst (λ (s : Session S). Holds s 2 (Pull ∷ [])) (sym resumes) (2, refl, tt)

  full_holds : Holds (step (queuing (n1 ∷ n2 ∷ [])) (Push n3)) 0 after_queuing
  full_holds = subst (λ (s : Session S). Holds s 0 after_queuing) (sym third_push)
      (0, refl, (0, refl, (0, refl, (0, refl, (2, resume_holds, last_holds)))))

  two_hold : Holds (step (queuing (n1 ∷ [])) (Push n2)) 0 (Push n3 ∷ after_queuing)
  two_hold = subst (λ (s : Session S). Holds s 0 (Push n3 ∷ after_queuing)) (sym second_push) (0, refl, full_holds)

  one_holds : Holds (step (queuing []) (Push n1)) 0 (Push n2 ∷ Push n3 ∷ after_queuing)
  one_holds = subst (λ (s : Session S). Holds s 0 (Push n2 ∷ Push n3 ∷ after_queuing)) (sym first_push)
      (0, refl, two_hold)

  early_holds : Holds (step (new []) (Push early)) 0 after_early
  early_holds = subst (λ (s : Session S). Holds s 0 after_early) (sym early_push)
      (0, refl, (0, refl, (0, refl, one_holds)))

  last_fits : AllConnectionsFit reader (connections last.trace)
  last_fits = (
    record { within = omega arith; in_order = ([], refl) },
    (record { within = omega arith; in_order = ([], refl) }, tt),
  )

  pub notes_are_an_account : IsAccount {S = S} reader (notes c d early n1 n2 n3)
  notes_are_an_account = record {
    first = refl;
    fits = subst (λ (s : Session S). AllConnectionsFit reader (connections s.trace)) (sym notes_end) last_fits;
    each = (0, refl, (0, refl, early_holds));
  }

  pub notes_go_again : connections (run {S = S} start (notes c d early n1 n2 n3)).trace ≡ notes_sent c d n1 n2 n3
  notes_go_again = ap (λ (s : Session S). connections s.trace) notes_end

  pub notes_are_handled : handled {S = S} reader (run start (notes c d early n1 n2 n3)) ≡ n1 ∷ n2 ∷ n3 ∷ []
  notes_are_handled = ap (handled reader) notes_end
