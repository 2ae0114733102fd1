-- What a client handled, and what was acted on for it.
use Rattle.std.proofs.Common.{◌≡◌, ℕ, List, drop, Some, Bool, true, false, refl, sym, subst}
use Rattle.stanza_tree.specs.declared.frame.Entry.{Entry}
use Rattle.stanza_model.specs.declared.stanza.Stanza.{Stanza}
use Rattle.sm_counters.specs.Numbers.{count_of}
use Rattle.sm_account.specs.Prefixes.{IsPrefixOf}
use Rattle.sm_account.specs.Sessions as one
use Rattle.sm_account.specs.Sessions.{Core}
use Rattle.sm_account.specs.Accounts as past
use Rattle.sm_account.specs.Accounts.{Account}
use Rattle.sm_account.proofs.Promises as alone
use Rattle.house_model.specs.States.{State}
use Rattle.house_model.specs.Histories.{Turn, Legal, IsOpening}
use Rattle.house_model.specs.Bridge.{core_of, ops_of, alone_of}
use Rattle.house_model.specs.Lines.{acted}
use Rattle.house_model.specs.Accounts.{IsAccountOf, handled, total_handled}
use Rattle.house_model.specs.Promises.{session_in, counted, number_of}
use Rattle.house_model.proofs.Cores.{alone_core}
use Rattle.house_model.proofs.LineLaws.{acted_are}
use Rattle.house_model.proofs.AccountLines.{total_same}
use Rattle.house_model.proofs.AccountLaws.{account_is, handled_same, uncounted_handled}

pub handled_is : (o : State) (h : List Turn) (s : ℕ) (a : Account Stanza) → IsOpening o → Legal o h → IsAccountOf a o h s
    → IsPrefixOf (handled a o h s) (counted o h s)
handled_is o h s a starts legal is = by_counts (session_in o h s).counts refl
  where
    by_counts : (b : Bool) → (session_in o h s).counts ≡ b → IsPrefixOf (handled a o h s) (counted o h s)
    by_counts true counts =
        subst (λ (es : List Entry). IsPrefixOf es (counted o h s)) (sym (handled_same o h s a starts legal counts))
        (subst (λ (x : Core Stanza). IsPrefixOf (past.handled a (alone_of s o h)) (drop x.base_out x.queued))
        (sym (alone_core o h s starts))
        (alone.handled_prefix a (ops_of s o h) (account_is o h s a starts legal counts is)))
    by_counts false counts =
        subst (λ (es : List Entry). IsPrefixOf es (counted o h s)) (sym (uncounted_handled o h s a starts legal counts))
        (counted o h s, refl)

pub acted_is : (o : State) (h : List Turn) (s : ℕ) (a : Account Stanza) → IsOpening o → Legal o h → IsAccountOf a o h s
    → IsPrefixOf (acted o h s) a.stanzas
acted_is o h s a starts legal is =
    subst (λ (xs : List Stanza). IsPrefixOf xs a.stanzas) (acted_are o h s starts legal)
    (by_counts (session_in o h s).counts refl)
  where
    by_counts : (b : Bool) → (session_in o h s).counts ≡ b
        → IsPrefixOf (one.acted (core_of (session_in o h s))) a.stanzas
    by_counts true counts =
        subst (λ (x : Core Stanza). IsPrefixOf (one.acted x) a.stanzas) (sym (alone_core o h s starts))
        (alone.acted_once a (ops_of s o h) (account_is o h s a starts legal counts is))
    by_counts false counts =
        subst (λ (b : Bool). IsPrefixOf
        (one.acted_if b (session_in o h s).traffic.base_in (session_in o h s).traffic.acts) a.stanzas)
        (sym counts) (a.stanzas, refl)

-- the count of a client that says how much it handled names that very number
pub count_is_named : (o : State) (h : List Turn) (s : ℕ) (a : Account Stanza) → IsOpening o → Legal o h
    → IsAccountOf a o h s → (session_in o h s).counts ≡ true
    → number_of (session_in o h s).traffic (count_of (total_handled a o h s)) ≡ Some (total_handled a o h s)
count_is_named o h s a starts legal is counts =
    subst (λ (n : ℕ). number_of (session_in o h s).traffic (count_of n) ≡ Some n)
    (total_same a o h s starts legal counts)
    (subst (λ (x : Core Stanza). x.counts ≡ true
    → one.named x (count_of (past.total_handled a (alone_of s o h))) ≡ Some (past.total_handled a (alone_of s o h)))
    (sym (alone_core o h s starts))
    (alone.count_is_named a (ops_of s o h) (account_is o h s a starts legal counts is)) counts)
