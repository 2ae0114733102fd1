-- What an account tells of the house's lines is what it tells of a session that goes alone.
use Rattle.std.proofs.Common.{◌≡◌, ◌⊎◌, inl, inr, ℕ, suc, ◌+◌, ◌<◌, ◌≤◌, ◌^◌, List, [], ◌∷◌, ◌++◌, length, drop}
use Rattle.std.proofs.Common.{Some, true, refl, sym, ap, ◌∙◌, subst, append_assoc, arith}
use Rattle.std.specs.Prelude.{slice_get}
use Rattle.stanza_tree.specs.declared.frame.Entry.{Entry}
use Rattle.stanza_model.specs.declared.stanza.Stanza.{Stanza}
use Rattle.sm_counters.specs.Numbers.{count_of, number}
use Rattle.sm_account.specs.Prefixes.{IsPrefixOf}
use Rattle.sm_account.specs.Sessions as one
use Rattle.sm_account.specs.Sessions.{Core}
use Rattle.sm_account.specs.Connections as alone
use Rattle.sm_account.specs.Connections.{Connection, connections}
use Rattle.sm_account.specs.Logs.{latest_first, numbers, AllAre}
use Rattle.sm_account.specs.Accounts as past
use Rattle.sm_account.specs.Accounts.{Account, IsOneOf}
use Rattle.house_model.specs.States.{State}
use Rattle.house_model.specs.Histories.{Turn, after, Legal, IsOpening}
use Rattle.house_model.specs.Bridge.{ops_of, alone_of}
use Rattle.house_model.specs.Lines.{lines, carried, arrivals, asks}
use Rattle.house_model.specs.Accounts as house
use Rattle.house_model.specs.Accounts.{sum, latest}
use Rattle.house_model.proofs.Cores.{alone_core}
use Rattle.house_model.proofs.LineLaws.{lines_are, shares_are, asks_are}
use Rattle.house_model.proofs.Shorts.{numbered_run, start_numbered}

-- lists from the other end
pub latest_latest : (xs ys zs : List ℕ) → latest_first (latest_first xs ys) zs ≡ latest_first ys (xs ++ zs)
latest_latest [] ys zs = refl
latest_latest (x ∷ xs) ys zs = latest_latest xs (x ∷ ys) zs

pub latest_onto : (xs ys zs : List ℕ) → latest_first xs (ys ++ zs) ≡ latest_first xs ys ++ zs
latest_onto [] ys zs = refl
latest_onto (x ∷ xs) ys zs = latest_onto xs (x ∷ ys) zs

pub latest_length : (xs ys : List ℕ) → length (latest_first xs ys) ≡ length xs + length ys
latest_length [] ys = omega arith
latest_length (x ∷ xs) ys = latest_length xs (x ∷ ys) ∙ omega arith

pub numbers_length : (cs : List (Connection Stanza)) → length (numbers cs) ≡ length cs
numbers_length [] = refl
numbers_length (c ∷ cs) = ap suc (numbers_length cs)

at_seam : (xs : List ℕ) (c : ℕ) (tail : List ℕ) → slice_get (xs ++ c ∷ tail) (length xs) ≡ Some c
at_seam [] c tail = refl
at_seam (x ∷ xs) c tail = at_seam xs c tail

one_of_latest : (n : ℕ) (xs ys : List ℕ) → IsOneOf n xs ⊎ IsOneOf n ys → IsOneOf n (latest_first xs ys)
one_of_latest n [] ys (inl is) = absurd is
one_of_latest n [] ys (inr is) = is
one_of_latest n (x ∷ xs) ys (inl (inl e)) = one_of_latest n xs (x ∷ ys) (inr (inl e))
one_of_latest n (x ∷ xs) ys (inl (inr is)) = one_of_latest n xs (x ∷ ys) (inl is)
one_of_latest n (x ∷ xs) ys (inr is) = one_of_latest n xs (x ∷ ys) (inr (inr is))

-- the lines are these connections, and others after them
record AreLines (ls : List ℕ) (cs : List (Connection Stanza)) : Type 0 where
  tail : List ℕ
  all : ls ≡ latest_first (numbers cs) [] ++ tail

all_lines : (ls : List ℕ) (cs : List (Connection Stanza)) → numbers cs ≡ latest_first ls [] → AreLines ls cs
all_lines ls cs same = record {
  tail = [];
  all = sym (ap (λ (l : List ℕ). l ++ []) (ap (λ (l : List ℕ). latest_first l []) same ∙ latest_latest ls [] [])
      ∙ (append_assoc ls [] [] ∙ no_more ls));
}
  where
    no_more : (xs : List ℕ) → xs ++ [] ≡ xs
    no_more [] = refl
    no_more (x ∷ xs) = ap (λ (l : List ℕ). x ∷ l) (no_more xs)

module _ (ls : List ℕ) (c : Connection Stanza) (cs : List (Connection Stanza)) (r : AreLines ls (c ∷ cs)) where
  split : ls ≡ latest_first (numbers cs) [] ++ (c.number ∷ r.tail)
  split =
      r.all
      ∙ (ap (λ (l : List ℕ). l ++ r.tail) (latest_onto (numbers cs) [] (c.number ∷ []))
      ∙ append_assoc (latest_first (numbers cs) []) (c.number ∷ []) r.tail)

  here : slice_get ls (length cs) ≡ Some c.number
  here =
      ap (slice_get ls) (sym (latest_length (numbers cs) [] ∙ (omega (arith, numbers_length cs))))
      ∙ (ap (λ (l : List ℕ). slice_get l (length (latest_first (numbers cs) []))) split
      ∙ at_seam (latest_first (numbers cs) []) c.number r.tail)

  rest : AreLines ls cs
  rest = record { tail = c.number ∷ r.tail; all = split }

-- what holds of each line holds of each connection
all_fit : (a : Account Stanza) (o : State) (h : List Turn) (s : ℕ) (cs : List (Connection Stanza))
    → AreLines (lines o h s) cs → AllAre (carried o h s) (arrivals o h s) cs
    → ((i c : ℕ) → slice_get (lines o h s) i ≡ Some c → house.LineFits a o h s i c) → past.AllConnectionsFit a cs
all_fit a o h s [] r all fits = tt
all_fit a o h s (c ∷ cs) r all fits =
    let it : house.LineFits a o h s (length cs) c.number = fits (length cs) c.number (here (lines o h s) c cs r) in (
      record {
        within = subst (λ (es : List Entry). a.handles (length cs) ≤ length es) (sym all.0) it.within;
        in_order = subst (λ (xs : List Stanza). IsPrefixOf xs (drop (a.begins (length cs)) a.stanzas)) (sym all.1) it.in_order;
      },
      all_fit a o h s cs (rest (lines o h s) c cs r) all.2 fits,
    )

all_arrived_by : (a : Account Stanza) (o : State) (h : List Turn) (s most : ℕ) (cs : List (Connection Stanza))
    → AreLines (lines o h s) cs → AllAre (carried o h s) (arrivals o h s) cs
    → ((j c : ℕ) → slice_get (lines o h s) j ≡ Some c → a.begins j + length (arrivals o h s c) ≤ most)
    → past.ArrivedBy a.begins most cs
all_arrived_by a o h s most [] r all sent = tt
all_arrived_by a o h s most (c ∷ cs) r all sent = (
  subst (λ (xs : List Stanza). a.begins (length cs) + length xs ≤ most) (sym all.1)
      (sent (length cs) c.number (here (lines o h s) c cs r)),
  all_arrived_by a o h s most cs (rest (lines o h s) c cs r) all.2 sent,
)

total_is : (handles : ℕ → ℕ) (cs : List (Connection Stanza)) → past.total handles cs ≡ sum handles (length cs)
total_is handles [] = refl
total_is handles (c ∷ cs) = ap (λ (n : ℕ). n + handles (length cs)) (total_is handles cs)

module _ (a : Account Stanza) (o : State) (h : List Turn) (s : ℕ) (starts : IsOpening o) (legal : Legal o h)
    (counts : ((after o h).world.sessions s).counts ≡ true) where
  abbrev x : alone.Session Stanza
  x = alone_of s o h

  same_numbers : numbers (connections x.trace) ≡ latest_first (lines o h s) []
  same_numbers = lines_are o h s starts legal counts

  all_of : AreLines (lines o h s) (connections x.trace)
  all_of = all_lines (lines o h s) (connections x.trace) same_numbers

  place : length x.trace.earlier ≡ latest a o h s
  place =
      let long : length (numbers (connections x.trace)) ≡ length (lines o h s) + 0 =
      ap length same_numbers ∙ latest_length (lines o h s) [] in
      let of_rest : length (numbers x.trace.earlier) ≡ length x.trace.earlier = numbers_length x.trace.earlier in
      omega (arith, long, of_rest)

  before_is : past.total_before a x ≡ sum a.handles (latest a o h s)
  before_is = total_is a.handles x.trace.earlier ∙ ap (sum a.handles) place

  pub total_same : past.total_handled a x ≡ house.total_handled a o h s
  total_same = λ i. before_is i + a.handles (place i)

  pub fits_are : ((i c : ℕ) → slice_get (lines o h s) i ≡ Some c → house.LineFits a o h s i c)
      → past.AllConnectionsFit a (connections x.trace)
  fits_are fits = all_fit a o h s (connections x.trace) all_of (shares_are o h s starts legal) fits

  pub present_number : (c : ℕ) → x.core.hold ≡ one.Held c → x.trace.present.number ≡ c
  present_number c held = numbered_run alone.start (ops_of s o h) start_numbered c held

  present_carried : (c : ℕ) → x.core.hold ≡ one.Held c → x.trace.present.carried ≡ carried o h s c
  present_carried c held =
      (shares_are o h s starts legal).0 ∙ ap (carried o h s) (present_number c held)

  pub acks_are : (c said count v : ℕ) → x.core.hold ≡ one.Held c → house.Acks a o h s c said count v
      → past.Acks a x said count v
  acks_are c said count v held k = record {
    count = k.counts;
    rising = k.rising;
    before = subst (λ (n : ℕ). n ≤ v) (sym before_is) k.before;
    handled = subst (λ (n : ℕ). v ≤ n) (sym total_same) k.handled;
    carried = subst (λ (n : ℕ). v ≤ n + length x.trace.present.carried) (sym before_is)
        (subst (λ (es : List Entry). v ≤ sum a.handles (latest a o h s) + length es)
        (sym (present_carried c held)) k.carried);
  }

  known_is : (n : ℕ) → house.IsKnown a o h s n → past.IsKnown a x n
  known_is n (inl e) = inl e
  known_is n (inr (inl b)) = inr (inl (b.0, subst (λ (i : ℕ). b.0 ≤ i) (sym place) b.1, b.2))
  known_is n (inr (inr told)) = inr (inr (subst (IsOneOf n) (sym (asks_are o h s starts legal))
      (one_of_latest n (asks o h s) [] (inl told))))

  pub resumes_are : (count : ℕ) → house.Resumes a o h s count → past.Resumes a x count
  resumes_are count k = record {
    count = ap count_of total_same ∙ k.counts;
    known = subst (λ (i : ℕ). past.IsKnown a x (a.lowest i)) (sym place) (known_is (a.lowest (latest a o h s)) k.known);
    sent = subst (λ (i : ℕ). past.ArrivedBy a.begins (a.highest i) (connections x.trace)) (sym place)
        (all_arrived_by a o h s (a.highest (latest a o h s)) (connections x.trace) all_of (shares_are o h s starts legal)
        k.sent);
    has = subst (λ (i : ℕ). a.highest i ≤ length a.stanzas) (sym place) k.has;
    near = subst (λ (i : ℕ). a.highest i < a.lowest i + 2 ^ 32) (sym place) k.near;
    begins = subst (λ (i : ℕ). number (a.lowest i) (a.highest i) (one.inward_count x.core) ≡ Some (a.begins (i + 1)))
        (sym place)
        (subst (λ (y : Core Stanza). number (a.lowest (latest a o h s)) (a.highest (latest a o h s)) (one.inward_count y)
        ≡ Some (a.begins (latest a o h s + 1)))
        (alone_core o h s starts) k.begins);
  }
