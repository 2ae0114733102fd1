-- An account of the house's history is one of a session that goes alone, and what it says was handled is the same.
use Rattle.std.proofs.Common.{◌≡◌, ℕ, zero, suc, ◌+◌, List, [], ◌∷◌, ◌++◌, length, take, Bool, true, false, refl}
use Rattle.std.proofs.Common.{sym, ap, ◌∙◌, subst, append-nil, append_assoc, true≢false, arith}
use Rattle.stanza_tree.specs.declared.frame.Entry.{Entry}
use Rattle.stanza_model.specs.declared.stanza.Stanza.{Stanza}
use Rattle.sm_account.specs.Sessions as one
use Rattle.sm_account.specs.Sessions.{Core, core_step, core_run}
use Rattle.sm_account.specs.Connections as alone
use Rattle.sm_account.specs.Connections.{Connection, connections, run}
use Rattle.sm_account.specs.Logs as log
use Rattle.sm_account.specs.Logs.{Given, log_of, latest_first, entries_of, numbers, AllAre}
use Rattle.sm_account.specs.Accounts as past
use Rattle.sm_account.specs.Accounts.{Account, IsAccount, AllOperationsFit}
use Rattle.sm_account.proofs.Logs.{counts_stay}
use Rattle.sm_account.proofs.Grows.{run_append, core_of_run}
use Rattle.house_model.specs.States.{State}
use Rattle.house_model.specs.Histories.{Turn, next, after, Legal, IsOpening}
use Rattle.house_model.specs.Bridge.{turn_ops, ops_of, alone_of}
use Rattle.house_model.specs.Lines.{told, given, lines, carried, arrivals}
use Rattle.house_model.specs.Accounts as house
use Rattle.house_model.proofs.TurnLaws.{after_push, legal_push}
use Rattle.house_model.proofs.Cores.{alone_core}
use Rattle.house_model.proofs.Hearing.{given_turn}
use Rattle.house_model.proofs.LineLaws.{log_is, lines_are, shares_are}
use Rattle.house_model.proofs.AccountLines.{latest_latest, latest_onto, latest_length, numbers_length, fits_are}
use Rattle.house_model.proofs.Muted.{lead_append}
use Rattle.house_model.proofs.AccountTurns.{turn_lead}

pub ops_append : (s : ℕ) (st : State) (xs ys : List Turn)
    → ops_of s st (xs ++ ys) ≡ ops_of s st xs ++ ops_of s (after st xs) ys
ops_append s st [] ys = refl
ops_append s st (x ∷ xs) ys =
    ap (λ (l : List (one.Op Stanza)). turn_ops s st x.event x.outcome ++ l) (ops_append s (next st x) xs ys)
    ∙ sym (append_assoc (turn_ops s st x.event x.outcome) (ops_of s (next st x) xs) (ops_of s (after (next st x) xs) ys))

alone_push : (s : ℕ) (o : State) (g : List Turn) (x : Turn)
    → alone_of s o (g ++ x ∷ []) ≡ run (alone_of s o g) (turn_ops s (after o g) x.event x.outcome)
alone_push s o g x =
    ap alone.after (ops_append s o g (x ∷ []))
    ∙ (run_append alone.start (ops_of s o g) (turn_ops s (after o g) x.event x.outcome ++ [])
    ∙ ap (run (alone_of s o g)) (append-nil (turn_ops s (after o g) x.event x.outcome)))

-- turn by turn
turns_are : (a : Account Stanza) (o : State) (s : ℕ) (g : List Turn) (said : ℕ) (more : List Turn) → IsOpening o
    → Legal o g → Legal (after o g) more → house.TurnsFit a o g s said more
    → AllOperationsFit a (alone_of s o g) said (ops_of s (after o g) more)
turns_are a o s g said [] starts legal more_legal fits = tt
turns_are a o s g said (x ∷ more) starts legal more_legal fits =
    lead_append a (alone_of s o g) said fits.0 (turn_ops s (after o g) x.event x.outcome)
    (ops_of s (next (after o g) x) more)
    (turn_lead a o g s starts legal x.event x.outcome said fits.0 more_legal.0.outcome fits.1)
    (subst (λ (y : alone.Session Stanza). AllOperationsFit a y fits.0 (ops_of s (next (after o g) x) more))
    (alone_push s o g x)
    (subst (λ (st : State). AllOperationsFit a (alone_of s o (g ++ x ∷ [])) fits.0 (ops_of s st more))
    (after_push o g x)
    (turns_are a o s (g ++ x ∷ []) fits.0 more starts (legal_push o g x legal more_legal.0)
    (subst (λ (st : State). Legal st more) (sym (after_push o g x)) more_legal.1) fits.2)))

pub account_is : (o : State) (h : List Turn) (s : ℕ) (a : Account Stanza) → IsOpening o → Legal o h
    → ((after o h).world.sessions s).counts ≡ true → house.IsAccountOf a o h s → IsAccount a (ops_of s o h)
account_is o h s a starts legal counts is = record {
  first = is.first;
  fits = fits_are a o h s starts legal counts is.lines;
  each = turns_are a o s [] 0 h starts tt legal is.turns;
}

-- what was handled, line by line
handled_append : (a : Account Stanza) (o : State) (h : List Turn) (s i : ℕ) (xs ys : List ℕ)
    → house.handled_on a o h s i (xs ++ ys)
    ≡ house.handled_on a o h s i xs ++ house.handled_on a o h s (i + length xs) ys
handled_append a o h s i [] ys = ap (λ (n : ℕ). house.handled_on a o h s n ys) (omega arith)
handled_append a o h s i (x ∷ xs) ys =
    ap (λ (l : List Entry). take (a.handles i) (carried o h s x) ++ l) (handled_append a o h s (i + 1) xs ys)
    ∙ (sym (append_assoc (take (a.handles i) (carried o h s x)) (house.handled_on a o h s (i + 1) xs)
    (house.handled_on a o h s (i + 1 + length xs) ys))
    ∙ ap (λ (n : ℕ). (take (a.handles i) (carried o h s x) ++ house.handled_on a o h s (i + 1) xs)
    ++ house.handled_on a o h s n ys) (omega arith))

handled_lines : (a : Account Stanza) (o : State) (h : List Turn) (s : ℕ) (cs : List (Connection Stanza))
    → AllAre (carried o h s) (arrivals o h s) cs
    → house.handled_on a o h s 0 (latest_first (numbers cs) []) ≡ past.handled_on a.handles cs
handled_lines a o h s [] all = refl
handled_lines a o h s (c ∷ cs) all =
    let before : List ℕ = latest_first (numbers cs) [] in
    let long : 0 + length before ≡ length cs =
    omega (arith, latest_length (numbers cs) [], numbers_length cs) in
    ap (house.handled_on a o h s 0) (latest_onto (numbers cs) [] (c.number ∷ []))
    ∙ (handled_append a o h s 0 before (c.number ∷ [])
    ∙ (ap (λ (l : List Entry). l ++ house.handled_on a o h s (0 + length before) (c.number ∷ []))
    (handled_lines a o h s cs all.2)
    ∙ (ap (λ (n : ℕ). past.handled_on a.handles cs ++ (take (a.handles n) (carried o h s c.number) ++ [])) long
    ∙ ap (λ (l : List Entry). past.handled_on a.handles cs ++ l)
    (append-nil (take (a.handles (length cs)) (carried o h s c.number))
    ∙ ap (take (a.handles (length cs))) (sym all.0)))))

pub handled_same : (o : State) (h : List Turn) (s : ℕ) (a : Account Stanza) → IsOpening o → Legal o h
    → ((after o h).world.sessions s).counts ≡ true → house.handled a o h s ≡ past.handled a (alone_of s o h)
handled_same o h s a starts legal counts =
    let cs : List (Connection Stanza) = connections (alone_of s o h).trace in
    ap (house.handled_on a o h s 0)
    (sym (ap (λ (ns : List ℕ). latest_first ns []) (lines_are o h s starts legal counts)
    ∙ (latest_latest (lines o h s) [] [] ∙ append-nil (lines o h s))))
    ∙ handled_lines a o h s cs (shares_are o h s starts legal)

-- nothing was handled of a session that doesn't count
pub run_counts : (x : Core Stanza) (ops : List (one.Op Stanza)) → x.counts ≡ true → (core_run x ops).counts ≡ true
run_counts x [] is = is
run_counts x (op ∷ ops) is =
    run_counts (core_step x op) ops
    (subst (λ (b : Bool). (one.core_if b x.hold x op).counts ≡ true) (sym is) (counts_stay x.hold op x is))

uncounted_gives : (x : Core Stanza) (ops : List (one.Op Stanza)) → (core_run x ops).counts ≡ false
    → log_of log.gives x ops ≡ []
uncounted_gives x [] is = refl
uncounted_gives x (op ∷ ops) is =
    ap (λ (l : List Given). l ++ log_of log.gives (core_step x op) ops) (by_counts x.counts refl)
    ∙ uncounted_gives (core_step x op) ops is
  where
    by_counts : (b : Bool) → x.counts ≡ b → log.gives_if b x.hold x op ≡ []
    by_counts true counts = absurd (true≢false (sym (run_counts x (op ∷ ops) counts) ∙ is))
    by_counts false counts = refl

take_none : (n : ℕ) → take {A = Entry} n [] ≡ []
take_none zero = refl
take_none (suc n) = refl

none_handled : (a : Account Stanza) (o : State) (h : List Turn) (s i : ℕ) (cs : List ℕ) → told (given s) o h ≡ []
    → house.handled_on a o h s i cs ≡ []
none_handled a o h s i [] none = refl
none_handled a o h s i (c ∷ cs) none =
    ap (λ (l : List Given). take (a.handles i) (entries_of c l) ++ house.handled_on a o h s (i + 1) cs) none
    ∙ (ap (λ (l : List Entry). l ++ house.handled_on a o h s (i + 1) cs) (take_none (a.handles i))
    ∙ none_handled a o h s (i + 1) cs none)

pub uncounted_handled : (o : State) (h : List Turn) (s : ℕ) (a : Account Stanza) → IsOpening o → Legal o h
    → ((after o h).world.sessions s).counts ≡ false → house.handled a o h s ≡ []
uncounted_handled o h s a starts legal counts =
    none_handled a o h s 0 (lines o h s)
    (log_is log.gives (given s) o h s (given_turn s) starts legal
    ∙ uncounted_gives one.unmade (ops_of s o h)
    (ap (λ (x : Core Stanza). x.counts)
    (sym (alone_core o h s starts ∙ core_of_run alone.start (ops_of s o h))) ∙ counts))
