-- What a client has handled of a stay is a prefix of the stay's run.
use Rattle.std.proofs.Common.{◌≡◌, ℕ, List, length, take, drop, sym, ap, ◌∙◌, subst}
use Rattle.std.proofs.lemmas.List.{take-append-drop}
use Rattle.std.proofs.lemmas.List.Elements.{filter-append}
use Rattle.std.proofs.Math.Seq.{drop-append_seam}
use Rattle.stanza_tree.specs.declared.frame.Entry.{Entry}
use Rattle.stanza_model.specs.declared.stanza.Stanza.{Stanza}
use Rattle.sm_account.specs.Accounts.{Account}
use Rattle.sm_account.specs.Prefixes.{IsPrefixOf}
use Rattle.house_model.specs.Accounts.{IsAccountOf, handled}
use Rattle.house_model.specs.Histories.{Turn, Legal, IsOpening}
use Rattle.house_model.specs.Promises.{counted, run_of, session_in, uncounted}
use Rattle.house_model.specs.States.{State}
use Rattle.house_model.specs.Stays.{is_of, live_of}
use Rattle.house_model.proofs.Prefixes.{handled_is}
use Rattle.house_model.proofs.StayVerdicts.{gapless}

live_prefix : (i : ℕ) (xs ys : List Entry) → IsPrefixOf xs ys → IsPrefixOf (live_of i xs) (live_of i ys)
live_prefix i xs ys (rest, is) = (live_of i rest, sym (filter-append (λ e. is_of i e.origin) xs rest) ∙ ap (live_of i) is)

live_drop : (i n : ℕ) (q : List Entry) → live_of i (drop n q) ≡ drop (length (live_of i (take n q))) (live_of i q)
live_drop i n q =
    sym (drop-append_seam (live_of i (take n q)) (live_of i (drop n q)))
    ∙ ap (drop (length (live_of i (take n q))))
    (sym (filter-append (λ e. is_of i e.origin) (take n q) (drop n q)) ∙ ap (live_of i) (take-append-drop n q))

pub handled_runs : (o : State) (h : List Turn) (s i : ℕ) (a : Account Stanza) → IsOpening o → Legal o h → IsAccountOf a o h s
    → IsPrefixOf (live_of i (handled a o h s)) (drop (length (live_of i (uncounted o h s))) (run_of o h s i))
handled_runs o h s i a starts legal is =
    let base : ℕ = (session_in o h s).traffic.base_out in
    let q : List Entry = (session_in o h s).traffic.queued in
    subst (IsPrefixOf (live_of i (handled a o h s)))
    (live_drop i base q ∙ ap (drop (length (live_of i (uncounted o h s)))) (gapless o h starts s i))
    (live_prefix i (handled a o h s) (counted o h s) (handled_is o h s a starts legal is))
