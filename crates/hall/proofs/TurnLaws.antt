-- What one turn does to its pass.
use Rattle.std.proofs.Common.{◌≡◌, ℕ, suc, List, [], ◌∷◌, ◌++◌, ◌^◌, ◌<◌, ◌≤◌, Bool, true, false, length, refl, sym, ◌∙◌, ap, arith}
use Rattle.std.specs.Prelude.{cond}
use Rattle.std.specs.Prelude.{◌==◌}
use Rattle.std.proofs.lemmas.List.{nil_from_length, length-append, append-nil}
use Rattle.std.proofs.lemmas.List.Elements.{filter-append}
use Rattle.std.proofs.lemmas.Bool.{eq-eqb}
use Rattle.turn_lock.specs.Histories.{StartsWith, if_so, places}
use Rattle.turn_lock.specs.Calls.{entries_of}
use Rattle.turn_lock.specs.Passes.{number_of, seen, mine, refused, drawn}
use Rattle.house_model.specs.Histories.{Turn}
use Rattle.hall.specs.Stories.{HallPass, line}
use Rattle.hall.specs.Halls.{Took, WasRefused, own}

count-if : (b : Bool) (k : ℕ) (x : Turn) (ks : List ℕ) (xs : List Turn) → length ks ≡ length xs → length (if_so b k ks) ≡ length (cond b (x ∷ xs) xs)
count-if true k x ks xs same = ap suc same
count-if false k x ks xs same = same

-- a line has as many places as turns
places-entries : (w k : ℕ) (h : List Turn) → length (places line w k h) ≡ length (entries_of line w h)
places-entries w k [] = refl
places-entries w k (x ∷ xs) = count-if (line x == w) k x (places line w (suc k) xs) (entries_of line w xs) (places-entries w (suc k) xs)

entries-one : (w : ℕ) (x : Turn) → line x ≡ w → entries_of line w (x ∷ []) ≡ x ∷ []
entries-one w x same = ap (λ (b : Bool). cond b (x ∷ []) []) (eq-eqb (line x) w same)

-- where one place was gained, one turn was
entries-grew : (w : ℕ) (old more : List Turn) (x : Turn) → line x ≡ w
    → places line w 0 ((old ++ more) ++ x ∷ []) ≡ places line w 0 old ++ length (old ++ more) ∷ []
    → entries_of line w ((old ++ more) ++ x ∷ []) ≡ entries_of line w old ++ x ∷ []
entries-grew w old more x same gained =
    let test : Turn → Bool = λ e. line e == w in
    let parts : entries_of line w ((old ++ more) ++ x ∷ []) ≡ (entries_of line w old ++ entries_of line w more) ++ x ∷ [] =
    filter-append test (old ++ more) (x ∷ []) ∙ (λ i. filter-append test old more i ++ entries-one w x same i) in
    let all = ap (λ (l : List Turn). length l) parts in
    let gain = ap (λ (l : List ℕ). length l) gained in
    let none : entries_of line w more ≡ [] = nil_from_length (entries_of line w more)
    (omega (
      arith,
      all,
      gain,
      places-entries w 0 ((old ++ more) ++ x ∷ []),
      places-entries w 0 old,
      length-append (places line w 0 old) (length (old ++ more) ∷ []),
      length-append (entries_of line w old ++ entries_of line w more) (x ∷ []),
      length-append (entries_of line w old) (entries_of line w more),
    )) in
    parts ∙ ap (λ (l : List Turn). (entries_of line w old ++ l) ++ x ∷ []) none ∙ ap (λ (l : List Turn). l ++ x ∷ []) (append-nil (entries_of line w old))

own-grew : (x : Turn) (old new : HallPass) (before : List Turn) → StartsWith before (seen old) → seen new ≡ before ++ x ∷ []
    → mine line new ≡ mine line old ++ length before ∷ [] → number_of new ≡ number_of old → line x ≡ number_of old
    → own new ≡ own old ++ x ∷ []
own-grew x old new before (more, begins) ends gained same of =
    let whole : seen new ≡ (seen old ++ more) ++ x ∷ [] = ends ∙ ap (λ (l : List Turn). l ++ x ∷ []) begins in
    let gains : places line (number_of old) 0 ((seen old ++ more) ++ x ∷ []) ≡ places line (number_of old) 0 (seen old) ++ length (seen old ++ more) ∷ [] =
    (λ i. places line (sym same i) 0 (sym whole i)) ∙ gained ∙ (λ i. places line (number_of old) 0 (seen old) ++ length (begins i) ∷ []) in
    (λ i. entries_of line (same i) (whole i)) ∙ entries-grew (number_of old) (seen old) more x of gains

-- `mid` is the pass while it works
pub took : (x : Turn) (old mid new : HallPass) → number_of mid ≡ number_of old → StartsWith (seen mid) (seen old)
    → mine line mid ≡ mine line old → (refused old ≡ false) × (refused mid ≡ false) → drawn old ≤ drawn mid → drawn mid < 2 ^ 63
    → number_of new ≡ number_of mid → seen new ≡ seen mid ++ x ∷ [] → mine line new ≡ mine line mid ++ length (seen mid) ∷ []
    → refused new ≡ refused mid → drawn new ≡ drawn mid → line x ≡ number_of old → Took x old new
took x old mid new number begins places unmarked known given number' ends gains marks count of =
    let gained = gains ∙ ap (λ (l : List ℕ). l ++ length (seen mid) ∷ []) places in
    record {
      before = seen mid;
      sight = begins;
      history = ends;
      mine = gained;
      own = own-grew x old new (seen mid) begins ends gained (number' ∙ number) of;
      unmarked = (unmarked.0, marks ∙ unmarked.1);
      drawn = (omega (arith, known, count), omega (arith, given, count));
    }

pub was_refused : (old new : HallPass) → number_of new ≡ number_of old → seen new ≡ seen old → mine line new ≡ mine line old
    → refused new ≡ true → drawn old ≤ drawn new → 2 ^ 63 ≤ drawn new → WasRefused old new
was_refused old new number kept places mark known spent = record {
  history = kept;
  mine = places;
  own = λ i. entries_of line (number i) (kept i);
  marked = mark;
  drawn = (known, spent);
}
