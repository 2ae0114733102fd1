-- The session of the stanzas, state by state.
use Rattle.std.proofs.Common.{◌≡◌, inl, ℕ, List, [], ◌∷◌, Some, true, false, refl, sym, ap, subst, arith}
use Rattle.sm_account.specs.Sessions.{Hold, Held, Away, Core, Resume, Act, acted, named}
use Rattle.sm_account.specs.Connections.{Connection, Session, connections, start, step, run}
use Rattle.sm_account.specs.Accounts.{Account, AllConnectionsFit, AllOperationsFit, IsAccount, ResumesIf}
use Rattle.sm_account.specs.Stories.{stanzas, stanzas_came, writer}
use Rattle.sm_account.proofs.Steps.{resumed_by}
use Rattle.sm_account.proofs.NotesResumed.{is_number}

module _ {S : Type 0} (c d : ℕ) (x0 x1 x2 x3 x4 x5 : S) where
  abbrev client : Account S
  client = writer x1 x2 x3 x4 x5

  abbrev doing : Hold → List S → Core S
  doing m acts = record {
    counts = true;
    hold = m;
    queued = [];
    kept = 0;
    sent = 0;
    asked_at = 0;
    base_out = 0;
    acts = x0 ∷ acts;
    base_in = 1;
  }

  abbrev from : ℕ → List S → Connection S
  from n arrived = record { number = n; carried = []; arrived = arrived; short = false }

  abbrev cut : Session S
  cut = record {
    core = doing Away (x1 ∷ x2 ∷ x3 ∷ []);
    trace = record { present = from c (x1 ∷ x2 ∷ x3 ∷ []); earlier = []; told = [] };
  }

  abbrev again : Session S
  again = record {
    core = doing (Held d) (x1 ∷ x2 ∷ x3 ∷ []);
    trace = record { present = from d []; earlier = from c (x1 ∷ x2 ∷ x3 ∷ []) ∷ []; told = [] };
  }

  abbrev end : Session S
  end = record {
    core = doing (Held d) (x1 ∷ x2 ∷ x3 ∷ x4 ∷ x5 ∷ []);
    trace = record { present = from d (x4 ∷ x5 ∷ []); earlier = from c (x1 ∷ x2 ∷ x3 ∷ []) ∷ []; told = [] };
  }

  names_none : named cut.core 0 ≡ Some 0
  names_none = is_number 0 0 (omega arith) (omega arith)

  goes_on : step cut (Resume d 0) ≡ again
  goes_on = ap (resumed_by cut d) names_none

  stanzas_end : run start (stanzas c d x0 x1 x2 x3 x4 x5) ≡ end
  stanzas_end = ap (λ (s : Session S). run s (Act x4 ∷ Act x5 ∷ [])) goes_on

  goes_on_holds : ResumesIf client cut 0 0 0 (named cut.core 0)
  goes_on_holds = subst (ResumesIf client cut 0 0 0) (sym names_none) (
    record {
      count = refl;
      known = inl refl;
      sent = (omega arith, tt);
      has = omega arith;
      near = omega arith;
      begins = is_number 5 3 (omega arith) (omega arith);
    },
    refl,
  )

  end_holds : AllOperationsFit client (step cut (Resume d 0)) 0 (Act x4 ∷ Act x5 ∷ [])
  end_holds = subst (λ (s : Session S). AllOperationsFit client s 0 (Act x4 ∷ Act x5 ∷ [])) (sym goes_on)
      (0, (refl, refl), (0, (refl, refl), tt))

  cut_holds : AllOperationsFit client cut 0 (Resume d 0 ∷ Act x4 ∷ Act x5 ∷ [])
  cut_holds = (0, goes_on_holds, end_holds)

  end_fits : AllConnectionsFit client (connections end.trace)
  end_fits = (
    record { within = omega arith; in_order = ([], refl) },
    (record { within = omega arith; in_order = (x4 ∷ x5 ∷ [], refl) }, tt),
  )

  pub stanzas_are_an_account : IsAccount client (stanzas c d x0 x1 x2 x3 x4 x5)
  stanzas_are_an_account = record {
    first = refl;
    fits = subst (λ (s : Session S). AllConnectionsFit client (connections s.trace)) (sym stanzas_end) end_fits;
    each = (
      0,
      refl,
      (0, refl, (0, refl, (0, (refl, refl), (0, (refl, refl), (0, (refl, refl), (0, refl, cut_holds)))))),
    );
  }

  pub stanzas_come_again : connections (run start (stanzas c d x0 x1 x2 x3 x4 x5)).trace
      ≡ stanzas_came c d x1 x2 x3 x4 x5
  stanzas_come_again = ap (λ (s : Session S). connections s.trace) stanzas_end

  pub all_are_acted_on : acted (run start (stanzas c d x0 x1 x2 x3 x4 x5)).core ≡ x1 ∷ x2 ∷ x3 ∷ x4 ∷ x5 ∷ []
  all_are_acted_on = ap (λ (s : Session S). acted s.core) stanzas_end
