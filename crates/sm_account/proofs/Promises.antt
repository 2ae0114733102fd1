-- What a client that counts can rely on.
use Rattle.std.proofs.Common.{◌≡◌, inl, inr, ℕ, zero, suc, ◌+◌, List, [], ◌∷◌, take, drop, Some, Bool, true, false, refl, sym, ap, ◌∙◌, subst, arith}
use Rattle.stanza_tree.specs.declared.frame.Entry.{Entry}
use Rattle.sm_counters.specs.Numbers.{count_of}
use Rattle.sm_account.specs.Sessions.{Ended, Op, Resume, acted, acted_if, core_step, named}
use Rattle.sm_account.specs.Connections.{Session, start, run}
use Rattle.sm_account.specs.Accounts.{Account, IsAccount, handled, total_handled}
use Rattle.sm_account.specs.Prefixes.{IsPrefixOf}
use Rattle.sm_account.proofs.Places.{unmade_in_order}
use Rattle.sm_account.proofs.Outward as out
use Rattle.sm_account.proofs.Inward as inn
use Rattle.sm_account.proofs.Keeps.{AtEnd, Keeps, Uncounted, names, runs, starts}
use Rattle.sm_account.proofs.Carried.{resumes}
use Rattle.sm_account.proofs.Whole.{follows}

at_end : {S : Type 0} (a : Account S) (ops : List (Op S)) → IsAccount a ops → AtEnd a (run start ops)
at_end a ops is = runs a start 0 ops is.first unmade_in_order (starts a) (follows a start 0 ops is.each is.fits)

take_none : (k : ℕ) (es : List Entry) → es ≡ [] → take k es ≡ []
take_none zero es e = refl
take_none (suc k) [] e = refl
take_none (suc k) (x ∷ xs) e = absurd (cc)

handled_none : {S : Type 0} (a : Account S) (s : Session S) (said : ℕ) → Uncounted s said → handled a s ≡ []
handled_none a s said f = rw (f.1.carried, f.1.alone) (take_none (a.handles 0) [] refl)

handled_is : {S : Type 0} (a : Account S) (s : Session S) (said : ℕ) → Keeps a s said
    → IsPrefixOf (handled a s) (drop s.core.base_out s.core.queued)
handled_is a s said (inl f) = (drop s.core.base_out s.core.queued, rw (handled_none a s said f) refl)
handled_is a s said (inr (counts, o, i)) = out.prefix s.trace.present o

acted_is : {S : Type 0} (a : Account S) (s : Session S) (said : ℕ) → Keeps a s said
    → IsPrefixOf (acted s.core) a.stanzas
acted_is a s said (inl f) = (a.stanzas, rw f.0 refl)
acted_is a s said (inr (counts, o, i)) =
    subst (λ (b : Bool). IsPrefixOf (acted_if b s.core.base_in s.core.acts) a.stanzas) (sym counts) (inn.prefix i)

named_is : {S : Type 0} (a : Account S) (s : Session S) → s.core.counts ≡ true → (e : AtEnd a s) → Keeps a s e.said
    → named s.core (count_of (total_handled a s)) ≡ Some (total_handled a s)
named_is a s counts e (inl f) = let bad : true ≡ false = sym counts ∙ f.0 in cc
named_is a s counts e (inr k) =
    names a s e.said (total_handled a s) _ e.in_order k k.1.said_handled (omega (arith, e.within)) refl

pub handled_prefix : {S : Type 0} (a : Account S) (ops : List (Op S)) → IsAccount a ops
    → IsPrefixOf (handled a (run start ops)) (drop (run start ops).core.base_out (run start ops).core.queued)
handled_prefix a ops is = let e = at_end a ops is in handled_is a (run start ops) e.said e.keeps

pub acted_once : {S : Type 0} (a : Account S) (ops : List (Op S)) → IsAccount a ops
    → IsPrefixOf (acted (run start ops).core) a.stanzas
acted_once a ops is = let e = at_end a ops is in acted_is a (run start ops) e.said e.keeps

pub count_is_named : {S : Type 0} (a : Account S) (ops : List (Op S)) → IsAccount a ops
    → (run start ops).core.counts ≡ true
    → named (run start ops).core (count_of (total_handled a (run start ops))) ≡ Some (total_handled a (run start ops))
count_is_named a ops is counts = let e = at_end a ops is in named_is a (run start ops) counts e e.keeps

-- the client's number is where the session goes on
pub goes_on : {S : Type 0} (a : Account S) (ops : List (Op S)) (c : ℕ) → IsAccount a ops
    → (run start ops).core.counts ≡ true
    → ((run start ops).core.hold ≡ Ended → ⊥)
    → (core_step (run start ops).core (Resume c (count_of (total_handled a (run start ops))))).sent
    ≡ (run start ops).core.base_out + total_handled a (run start ops)
goes_on {S = S} a ops c is counts live =
    ap (λ (s : Session S). s.core.sent)
    (resumes (run start ops).core.counts (run start ops).core.hold (run start ops) c _ _ counts live
    (count_is_named a ops is counts))
