-- The archive of one room is changed.
use Rattle.std.proofs.Common.{◌≡◌, ℕ, ◌+◌, ◌≤◌, List, [], ◌∷◌, ◌++◌, length, Bool, true, false, cond, nat_eq, Some, None}
use Rattle.std.proofs.Common.{refl, sym, ap, ◌∙◌, arith, if◌then◌else◌}
use Rattle.std.specs.Map.{lookup, set_value}
use Rattle.std.proofs.lemmas.Bool.{eqb-true}
use Rattle.indexmap.specs.IndexMap.{swap_remove_entry}
use Rattle.jid_core.specs.Addresses.{Address}
use Rattle.mam_archive.specs.Archives.{Archive, texts_length}
use Rattle.archive_table.specs.Archives.{displaced, no_rows, with_row}
use Rattle.archive_table.specs.Entries.{rooms_of}
use Rattle.archive_table.specs.Tables.{rows_of, spare_in, room_archive, room_texts}
use Rattle.archive_table.proofs.EntryLemmas.{at-end, at-set, or_else, rows-opened, rows-same, rows-with, spare-opened, spare-same}
use Rattle.archive_table.proofs.EntryLemmas.{spare-with, texts_in, total, total-end, total-le, total-out, total-set}

abbrev Rooms : Type 0
Rooms = List (ℕ × Archive)

equal : (m n : ℕ) → nat_eq m n ≡ true → m ≡ n
equal m n is = eqb-true m n is

self : (n : ℕ) → nat_eq n n ≡ true
self n = grind arith

own : (q u : ℕ) (k : ℕ) → nat_eq q k ≡ true → nat_eq u k ≡ nat_eq u q
own q u k is = ap (λ (m : ℕ). nat_eq u m) (sym (equal q k is))

pub room-at : (u : ℕ) (es : Rooms) → room_archive u (rooms_of es) ≡ lookup (nat_eq u) es
room-at u [] = refl
room-at u (e ∷ es) = ap (λ o. if nat_eq u e.0 then Some e.1 else o) (room-at u es)

texts-at : (es : Rooms) → room_texts (rooms_of es) ≡ total es
texts-at [] = refl
texts-at (e ∷ es) = ap (λ (n : ℕ). texts_length e.1.kept + n) (texts-at es)

set-at : (q u : ℕ) (es : Rooms) (f g : Archive) → lookup (nat_eq q) es ≡ Some f
    → lookup (nat_eq u) (set_value (nat_eq q) es g) ≡ cond (nat_eq u q) (Some g) (lookup (nat_eq u) es)
set-at = at-set nat_eq nat_eq own equal

module _ (room : ℕ) (es new : Rooms) (f g : Archive) (found : Some f ≡ lookup (nat_eq room) es) where
  here : lookup (nat_eq room) es ≡ Some f
  here = sym found

  pub room-mine : room_archive room (rooms_of es) ≡ Some f
  room-mine = room-at room es ∙ here

  pub room-held : texts_length f.kept ≤ room_texts (rooms_of es)
  room-held = let all = texts-at es in let one = total-le (nat_eq room) es f here in omega (arith, all, one)

  at-old : (u : ℕ) → nat_eq u room ≡ true → room_archive u (rooms_of es) ≡ Some f
  at-old u is = ap (λ (m : ℕ). room_archive m (rooms_of es)) (equal u room is) ∙ room-mine

  module _ (made : new ≡ set_value (nat_eq room) es g) where
    at-new : (u : ℕ) → room_archive u (rooms_of new) ≡ cond (nat_eq u room) (Some g) (room_archive u (rooms_of es))
    at-new u =
        room-at u new ∙ ap (lookup (nat_eq u)) made ∙ set-at room u es f g here
        ∙ ap (λ o. cond (nat_eq u room) (Some g) o) (sym (room-at u es))

    texts-new : room_texts (rooms_of new) + texts_length f.kept ≡ room_texts (rooms_of es) + texts_length g.kept
    texts-new =
        let before = texts-at es in
        let after = texts-at new ∙ ap total made in
        let step = total-set (nat_eq room) es f g here in
        omega (arith, before, after, step)

    -- a row is added

    pub room-rows : (peer : Address) (text : List ℕ) (moment : ℕ) → rows_of (Some g) ≡ with_row peer text moment (rows_of (Some f)) → (u : ℕ)
        → rows_of (room_archive u (rooms_of new))
        ≡ (if nat_eq u room then with_row peer text moment (rows_of (room_archive room (rooms_of es))) else rows_of (room_archive u (rooms_of es)))
    room-rows peer text moment rows u =
        rows-with (nat_eq u room) f g (room_archive room (rooms_of es)) (room_archive u (rooms_of es)) (room_archive u (rooms_of new))
        peer text moment room-mine (at-new u) rows

    pub room-spare : ((p : Address) → spare_in (Some f) p ≤ spare_in (Some g) p + 1) → (u : ℕ) (p : Address)
        → spare_in (room_archive u (rooms_of es)) p ≤ spare_in (room_archive u (rooms_of new)) p + (if nat_eq u room then 1 else 0)
    room-spare fits u p =
        spare-with (nat_eq u room) f g (room_archive u (rooms_of es)) (room_archive u (rooms_of new)) p (at-old u) (at-new u) (fits p)

    pub room-texts : (text : List ℕ) → texts_length g.kept + displaced (rows_of (Some f)) ≡ texts_length f.kept + length text
        → room_texts (rooms_of new) + displaced (rows_of (room_archive room (rooms_of es))) ≡ room_texts (rooms_of es) + length text
    room-texts text texts =
        let gone : displaced (rows_of (room_archive room (rooms_of es))) ≡ displaced (rows_of (Some f)) = ap (λ o. displaced (rows_of o)) room-mine in
        omega (arith, gone, texts, texts-new)

    -- memory is taken

    module _ (rows : rows_of (Some g) ≡ rows_of (Some f)) where
      pub room-rows-kept : (u : ℕ) → rows_of (room_archive u (rooms_of new)) ≡ rows_of (room_archive u (rooms_of es))
      room-rows-kept u = rows-same (nat_eq u room) f g (room_archive u (rooms_of es)) (room_archive u (rooms_of new)) (at-old u) (at-new u) rows

      pub room-texts-kept : room_texts (rooms_of new) ≡ room_texts (rooms_of es)
      room-texts-kept =
          let same : texts_length g.kept ≡ texts_length f.kept = ap (λ x. texts_length x.kept) rows in
          omega (arith, same, texts-new)

    pub room-spare-kept : ((p : Address) → spare_in (Some f) p ≤ spare_in (Some g) p) → (u : ℕ) (p : Address)
        → spare_in (room_archive u (rooms_of es)) p ≤ spare_in (room_archive u (rooms_of new)) p
    room-spare-kept fits u p =
        spare-same (nat_eq u room) f g (room_archive u (rooms_of es)) (room_archive u (rooms_of new)) p (at-old u) (at-new u) (fits p)

    pub room-here : room_archive room (rooms_of new) ≡ Some g
    room-here = at-new room ∙ ap (λ b. cond b (Some g) (room_archive room (rooms_of es))) (self room)

-- an archive more, of a room that had none
module _ (es new : Rooms) (key : ℕ) (g : Archive) (made : new ≡ es ++ (key, g) ∷ []) where
  opened : (u : ℕ) → room_archive u (rooms_of new) ≡ or_else (room_archive u (rooms_of es)) (cond (nat_eq u key) (Some g) None)
  opened u =
      room-at u new ∙ ap (lookup (nat_eq u)) made ∙ at-end (nat_eq u) es key g
      ∙ ap (λ o. or_else o (cond (nat_eq u key) (Some g) None)) (sym (room-at u es))

  pub room-rows-opened : rows_of (Some g) ≡ no_rows → (u : ℕ) → rows_of (room_archive u (rooms_of new)) ≡ rows_of (room_archive u (rooms_of es))
  room-rows-opened blank u = rows-opened (nat_eq u key) g (room_archive u (rooms_of es)) (room_archive u (rooms_of new)) (opened u) blank

  pub room-spare-opened : (u : ℕ) (p : Address) → spare_in (room_archive u (rooms_of es)) p ≤ spare_in (room_archive u (rooms_of new)) p
  room-spare-opened u p = spare-opened (nat_eq u key) g (room_archive u (rooms_of es)) (room_archive u (rooms_of new)) p (opened u)

  pub room-texts-opened : rows_of (Some g) ≡ no_rows → room_texts (rooms_of new) ≡ room_texts (rooms_of es)
  room-texts-opened blank =
      let none : texts_length g.kept ≡ 0 = ap (λ x. texts_length x.kept) blank in
      let before = texts-at es in
      let after = texts-at new ∙ ap total made ∙ total-end es key g in
      omega (arith, none, before, after)

-- an archive that is taken out
module _ (room : ℕ) (es new : Rooms) (gone : lookup (nat_eq room) new ≡ None)
    (others : (n : ℕ) → nat_eq room n ≡ false → lookup (nat_eq n) new ≡ lookup (nat_eq n) es) where
  at-other : (n : ℕ) → nat_eq n room ≡ false → room_archive n (rooms_of new) ≡ room_archive n (rooms_of es)
  at-other n is = room-at n new ∙ others n (flip (nat_eq room n) refl) ∙ sym (room-at n es)
    where
      flip : (b : Bool) → nat_eq room n ≡ b → b ≡ false
      flip true same = sym (self n) ∙ ap (λ (m : ℕ). nat_eq n m) (sym (equal room n same)) ∙ is
      flip false other = refl

  pub room-rows-out : (n : ℕ) → rows_of (room_archive n (rooms_of new)) ≡ (if nat_eq n room then no_rows else rows_of (room_archive n (rooms_of es)))
  room-rows-out n = by (nat_eq n room) refl
    where
      by : (b : Bool) → nat_eq n room ≡ b → rows_of (room_archive n (rooms_of new)) ≡ (if b then no_rows else rows_of (room_archive n (rooms_of es)))
      by true is = ap rows_of (room-at n new ∙ ap (λ (m : ℕ). lookup (nat_eq m) new) (equal n room is) ∙ gone)
      by false is = ap rows_of (at-other n is)

  pub room-spare-out : (n : ℕ) (p : Address) → nat_eq n room ≡ false
      → spare_in (room_archive n (rooms_of es)) p ≤ spare_in (room_archive n (rooms_of new)) p
  room-spare-out n p is = let same : spare_in (room_archive n (rooms_of new)) p ≡ spare_in (room_archive n (rooms_of es)) p
      = ap (λ o. spare_in o p) (at-other n is) in omega (arith, same)

pub room-texts-out : (room : ℕ) (es new : Rooms) → new ≡ swap_remove_entry (nat_eq room) es
    → room_texts (rooms_of new) + texts_in (room_archive room (rooms_of es)) ≡ room_texts (rooms_of es)
room-texts-out room es new made =
    let before = texts-at es in
    let after = texts-at new ∙ ap total made in
    let one : texts_in (room_archive room (rooms_of es)) ≡ texts_in (lookup (nat_eq room) es) = ap texts_in (room-at room es) in
    let step = total-out (nat_eq room) es in
    omega (arith, before, after, one, step)

pub room-texts-le : (room : ℕ) (es : Rooms) → texts_in (room_archive room (rooms_of es)) ≤ room_texts (rooms_of es)
room-texts-le room es =
    let all = room-texts-out room es (swap_remove_entry (nat_eq room) es) refl in omega (arith, all)

pub room-none : (room : ℕ) (es : Rooms) → None ≡ lookup (nat_eq room) es → room_archive room (rooms_of es) ≡ None
room-none room es none = room-at room es ∙ sym none
