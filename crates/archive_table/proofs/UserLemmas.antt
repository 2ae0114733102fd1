-- The archive of one user is changed.
use Rattle.std.proofs.Common.{◌≡◌, ℕ, ◌+◌, ◌≤◌, List, [], ◌∷◌, ◌++◌, length, true, cond, bytes_eq, Some, None}
use Rattle.std.proofs.Common.{refl, sym, ap, ◌∙◌, arith, if◌then◌else◌}
use Rattle.std.specs.Map.{lookup, set_value}
use Rattle.std.specs.declared.alloc.Global.{Global}
use Rattle.std.specs.declared.vec.Vec.{Vec}
use Rattle.std.proofs.lemmas.Slice.Eq.{bytes_eq-Decides}
use Rattle.jid_core.specs.Addresses.{Address}
use Rattle.mam_archive.specs.Archives.{Archive, texts_length}
use Rattle.archive_table.specs.Archives.{displaced, no_rows, with_row}
use Rattle.archive_table.specs.Entries.{users_of}
use Rattle.archive_table.specs.Tables.{rows_of, spare_in, user_archive, user_texts}
use Rattle.archive_table.proofs.EntryLemmas.{at-end, at-set, or_else, rows-opened, rows-same, rows-with, spare-opened}
use Rattle.archive_table.proofs.EntryLemmas.{spare-same, spare-with, total, total-end, total-le, total-set}

abbrev Users : Type 0
Users = List (Vec ℕ Global × Archive)

equal : (xs ys : List ℕ) → bytes_eq xs ys ≡ true → xs ≡ ys
equal xs ys is = (bytes_eq-Decides xs ys).0 is

self : (xs : List ℕ) → bytes_eq xs xs ≡ true
self xs = (bytes_eq-Decides xs xs).1 refl

own : (q u : List ℕ) (k : Vec ℕ Global) → bytes_eq q k.items ≡ true → bytes_eq u k.items ≡ bytes_eq u q
own q u k is = ap (λ (m : List ℕ). bytes_eq u m) (sym (equal q k.items is))

pub user-at : (u : List ℕ) (es : Users) → user_archive u (users_of es) ≡ lookup (λ k. bytes_eq u k.items) es
user-at u [] = refl
user-at u (e ∷ es) = ap (λ o. if bytes_eq u e.0.items then Some e.1 else o) (user-at u es)

texts-at : (es : Users) → user_texts (users_of es) ≡ total es
texts-at [] = refl
texts-at (e ∷ es) = ap (λ (n : ℕ). texts_length e.1.kept + n) (texts-at es)

set-at : (q u : List ℕ) (es : Users) (f g : Archive) → lookup (λ k. bytes_eq q k.items) es ≡ Some f
    → lookup (λ k. bytes_eq u k.items) (set_value (λ k. bytes_eq q k.items) es g) ≡ cond (bytes_eq u q) (Some g) (lookup (λ k. bytes_eq u k.items) es)
set-at = at-set (λ u k. bytes_eq u k.items) bytes_eq own equal

module _ (word user : List ℕ) (es new : Users) (f g : Archive) (same : word ≡ user) (found : Some f ≡ lookup (λ k. bytes_eq word k.items) es) where
  here : lookup (λ k. bytes_eq user k.items) es ≡ Some f
  here = ap (λ (m : List ℕ). lookup (λ k. bytes_eq m k.items) es) (sym same) ∙ sym found

  pub user-mine : user_archive user (users_of es) ≡ Some f
  user-mine = user-at user es ∙ here

  pub user-held : texts_length f.kept ≤ user_texts (users_of es)
  user-held = let all = texts-at es in let one = total-le (λ k. bytes_eq user k.items) es f here in omega (arith, all, one)

  at-old : (u : List ℕ) → bytes_eq u user ≡ true → user_archive u (users_of es) ≡ Some f
  at-old u is = ap (λ (m : List ℕ). user_archive m (users_of es)) (equal u user is) ∙ user-mine

  module _ (made : new ≡ set_value (λ k. bytes_eq word k.items) es g) where
    now : new ≡ set_value (λ k. bytes_eq user k.items) es g
    now = made ∙ ap (λ (m : List ℕ). set_value (λ k. bytes_eq m k.items) es g) same

    at-new : (u : List ℕ) → user_archive u (users_of new) ≡ cond (bytes_eq u user) (Some g) (user_archive u (users_of es))
    at-new u =
        user-at u new ∙ ap (lookup (λ k. bytes_eq u k.items)) now ∙ set-at user u es f g here
        ∙ ap (λ o. cond (bytes_eq u user) (Some g) o) (sym (user-at u es))

    texts-new : user_texts (users_of new) + texts_length f.kept ≡ user_texts (users_of es) + texts_length g.kept
    texts-new =
        let before = texts-at es in
        let after = texts-at new ∙ ap total now in
        let step = total-set (λ k. bytes_eq user k.items) es f g here in
        omega (arith, before, after, step)

    -- a row is added

    pub user-rows : (peer : Address) (text : List ℕ) (moment : ℕ) → rows_of (Some g) ≡ with_row peer text moment (rows_of (Some f)) → (u : List ℕ)
        → rows_of (user_archive u (users_of new))
        ≡ (if bytes_eq u user then with_row peer text moment (rows_of (user_archive user (users_of es))) else rows_of (user_archive u (users_of es)))
    user-rows peer text moment rows u =
        rows-with (bytes_eq u user) f g (user_archive user (users_of es)) (user_archive u (users_of es)) (user_archive u (users_of new))
        peer text moment user-mine (at-new u) rows

    pub user-spare : ((p : Address) → spare_in (Some f) p ≤ spare_in (Some g) p + 1) → (u : List ℕ) (p : Address)
        → spare_in (user_archive u (users_of es)) p ≤ spare_in (user_archive u (users_of new)) p + (if bytes_eq u user then 1 else 0)
    user-spare fits u p =
        spare-with (bytes_eq u user) f g (user_archive u (users_of es)) (user_archive u (users_of new)) p (at-old u) (at-new u) (fits p)

    pub user-texts : (text : List ℕ) → texts_length g.kept + displaced (rows_of (Some f)) ≡ texts_length f.kept + length text
        → user_texts (users_of new) + displaced (rows_of (user_archive user (users_of es))) ≡ user_texts (users_of es) + length text
    user-texts text texts =
        let gone : displaced (rows_of (user_archive user (users_of es))) ≡ displaced (rows_of (Some f)) = ap (λ o. displaced (rows_of o)) user-mine in
        omega (arith, gone, texts, texts-new)

    -- memory is taken

    module _ (rows : rows_of (Some g) ≡ rows_of (Some f)) where
      pub user-rows-kept : (u : List ℕ) → rows_of (user_archive u (users_of new)) ≡ rows_of (user_archive u (users_of es))
      user-rows-kept u = rows-same (bytes_eq u user) f g (user_archive u (users_of es)) (user_archive u (users_of new)) (at-old u) (at-new u) rows

      pub user-texts-kept : user_texts (users_of new) ≡ user_texts (users_of es)
      user-texts-kept =
          let same : texts_length g.kept ≡ texts_length f.kept = ap (λ x. texts_length x.kept) rows in
          omega (arith, same, texts-new)

    pub user-spare-kept : ((p : Address) → spare_in (Some f) p ≤ spare_in (Some g) p) → (u : List ℕ) (p : Address)
        → spare_in (user_archive u (users_of es)) p ≤ spare_in (user_archive u (users_of new)) p
    user-spare-kept fits u p =
        spare-same (bytes_eq u user) f g (user_archive u (users_of es)) (user_archive u (users_of new)) p (at-old u) (at-new u) (fits p)

    pub user-here : user_archive user (users_of new) ≡ Some g
    user-here = at-new user ∙ ap (λ b. cond b (Some g) (user_archive user (users_of es))) (self user)

-- an archive more, of a user that had none
module _ (es new : Users) (key : Vec ℕ Global) (g : Archive) (made : new ≡ es ++ (key, g) ∷ []) where
  opened : (u : List ℕ) → user_archive u (users_of new) ≡ or_else (user_archive u (users_of es)) (cond (bytes_eq u key.items) (Some g) None)
  opened u =
      user-at u new ∙ ap (lookup (λ k. bytes_eq u k.items)) made ∙ at-end (λ k. bytes_eq u k.items) es key g
      ∙ ap (λ o. or_else o (cond (bytes_eq u key.items) (Some g) None)) (sym (user-at u es))

  pub user-rows-opened : rows_of (Some g) ≡ no_rows → (u : List ℕ) → rows_of (user_archive u (users_of new)) ≡ rows_of (user_archive u (users_of es))
  user-rows-opened blank u = rows-opened (bytes_eq u key.items) g (user_archive u (users_of es)) (user_archive u (users_of new)) (opened u) blank

  pub user-spare-opened : (u : List ℕ) (p : Address) → spare_in (user_archive u (users_of es)) p ≤ spare_in (user_archive u (users_of new)) p
  user-spare-opened u p = spare-opened (bytes_eq u key.items) g (user_archive u (users_of es)) (user_archive u (users_of new)) p (opened u)

  pub user-texts-opened : rows_of (Some g) ≡ no_rows → user_texts (users_of new) ≡ user_texts (users_of es)
  user-texts-opened blank =
      let none : texts_length g.kept ≡ 0 = ap (λ x. texts_length x.kept) blank in
      let before = texts-at es in
      let after = texts-at new ∙ ap total made ∙ total-end es key g in
      omega (arith, none, before, after)

pub user-none : (word user : List ℕ) (es : Users) → word ≡ user → None ≡ lookup (λ k. bytes_eq word k.items) es
    → user_archive user (users_of es) ≡ None
user-none word user es same none =
    user-at user es ∙ ap (λ (m : List ℕ). lookup (λ k. bytes_eq m k.items) es) (sym same) ∙ sym none
