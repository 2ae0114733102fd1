-- How a run ends where nothing fails.
use Rattle.std.proofs.Common.{◌≡◌, ◌⊎◌, ℕ, ◌+◌, ◌<◌, ◌≤◌, List, ◌++◌, length, Ok, Err, refl, sym, ap, ◌∙◌, inl, inr, arith}
use Rattle.std.specs.Prelude.{Some}
use Rattle.std.proofs.lemmas.List.{append-nil, length-append}
use Rattle.account_book.specs.Entries.{Entry}
use Rattle.account_book.specs.declared.fault.LineKind.{LineKind}
use Rattle.script_play.specs.declared.status.Status.{Status}
use Rattle.script_play.specs.declared.status.Status.TheVariants as status
use Rattle.serve_run.specs.Limits.{most_list}
use Rattle.serve_run.specs.Services.{ReadsList, entries_for}

too_short : (most : ℕ) (list rest bytes : List ℕ) → bytes ≡ list ++ rest → length bytes ≤ most → most < length list → ⊥
too_short most list rest bytes split short long =
    let sum : length bytes ≡ length list + length rest = ap length split ∙ length-append list rest in
    omega arith

no_fault : (sessions : ℕ) (list bytes : List ℕ) (entries : List Entry) (fault : ℕ × LineKind) → list ≡ bytes → entries_for sessions bytes ≡ Ok entries
    → entries_for sessions list ≡ Err fault → ⊥
no_fault sessions list bytes entries fault same valid refused =
    let e : Ok entries ≡ Err fault = sym valid ∙ ap (entries_for sessions) (sym same) ∙ refused in
    absurd cc

same_rest : (now rest : List ℕ) → Some now ≡ Some rest → now ≡ rest
same_rest now rest h = cc

-- a list without a fault, all of which is read, has none
whole_list : (sessions : ℕ) (bytes now list : List ℕ) (entries : List Entry) (fault : ℕ × LineKind) → length bytes ≤ most_list sessions
    → entries_for sessions bytes ≡ Ok entries → ReadsList sessions (Some bytes) (Some now) list → entries_for sessions list ≡ Err fault → ⊥
whole_list sessions bytes now list entries fault short valid ((rest, split, is), inl none) refused =
    no_fault sessions list bytes entries fault
    (sym (split ∙ ap (λ (r : List ℕ). list ++ r) (sym (same_rest now rest is) ∙ none) ∙ append-nil list)) valid refused
whole_list sessions bytes now list entries fault short valid ((rest, split, is), inr long) refused =
    too_short (most_list sessions) list rest bytes split short long

pub ends_served : (sessions : ℕ) (bytes now : List ℕ) (entries : List Entry) (s : Status) → length bytes ≤ most_list sessions
    → entries_for sessions bytes ≡ Ok entries
    → ((n : ℕ) → s ≡ status.Accounts n
    → (list : List ℕ) × ReadsList sessions (Some bytes) (Some now) list × ((kind : LineKind) × (entries_for sessions list ≡ Err (n, kind))))
    → (s ≡ status.ReadFault → ⊥) → (s ≡ status.WriteFault → ⊥) → (s ≡ status.ListenFault → ⊥) → (s ≡ status.Usage → ⊥) → ((n : ℕ) → s ≡ status.Script n → ⊥)
    → (s ≡ status.Done) ⊎ (s ≡ status.NoMemory)
ends_served sessions bytes now entries status.Done short valid accounts read written listened usage script = inl refl
ends_served sessions bytes now entries status.NoMemory short valid accounts read written listened usage script = inr refl
ends_served sessions bytes now entries (status.Accounts n) short valid accounts read written listened usage script =
    let a : (list : List ℕ) × ReadsList sessions (Some bytes) (Some now) list × ((kind : LineKind) × (entries_for sessions list ≡ Err (n, kind)))
    = accounts n refl in
    absurd (whole_list sessions bytes now a.0 entries (n, a.2.0) short valid a.1 a.2.1)
ends_served sessions bytes now entries status.ReadFault short valid accounts read written listened usage script = absurd (read refl)
ends_served sessions bytes now entries status.WriteFault short valid accounts read written listened usage script = absurd (written refl)
ends_served sessions bytes now entries status.ListenFault short valid accounts read written listened usage script = absurd (listened refl)
ends_served sessions bytes now entries status.Usage short valid accounts read written listened usage script = absurd (usage refl)
ends_served sessions bytes now entries (status.Script n) short valid accounts read written listened usage script = absurd (script n refl)
