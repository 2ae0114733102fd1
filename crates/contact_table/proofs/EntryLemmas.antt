-- The folder of a user is found and changed.
use Rattle.std.proofs.Common.{◌≡◌, ℕ, ◌+◌, ◌<◌, ◌≤◌, List, [], ◌∷◌, ◌++◌, length, Bool, true, false, cond, bytes_eq}
use Rattle.std.proofs.Common.{Option, Some, None, is_some, refl, sym, ap, subst, ◌∙◌, arith}
use Rattle.std.specs.List.{list_all}
use Rattle.std.specs.Map.{set_value}
use Rattle.contact_table.specs.Books.{Book, bare_of}
use Rattle.contact_table.specs.Marks.{Sheet, empty_sheet}
use Rattle.contact_table.specs.Tables.{BookRecord, room_of, spare}
use Rattle.contact_table.specs.Folders.{Edits, Entries, IsNamed, IsOwn, Keeps, Name, folder_at, names_in, places, places_in, room_in, rooms, sheet, sheet_in}
use Rattle.contact_table.specs.declared.folder.Folder.{Folder}
use Rattle.jid_core.proofs.NameLemmas.{bytes_flip}
use Rattle.contact_table.proofs.ByteLemmas.{bytes_equal, bytes_same}

at_set : (user u : List ℕ) (es : Entries) (f new : Folder) → folder_at user es ≡ Some f
    → folder_at u (set_value (λ k. bytes_eq user k.items) es new) ≡ cond (bytes_eq user u) (Some new) (folder_at u es)
at_set user u [] f new found = cc
at_set user u (e ∷ es) f new found = by (bytes_eq user e.0.items) refl found (at_set user u es f new)
  where
    twice : (d : Bool) → cond d (Some new) (folder_at u es) ≡ cond d (Some new) (cond d (Some e.1) (folder_at u es))
    twice true = refl
    twice false = refl

    other : (c d : Bool) → (d ≡ true → c ≡ false)
        → cond c (Some e.1) (cond d (Some new) (folder_at u es)) ≡ cond d (Some new) (cond c (Some e.1) (folder_at u es))
    other true true apart = let wrong : true ≡ false = apart refl in absurd (cc)
    other true false apart = refl
    other false d apart = refl

    by : (b : Bool) → bytes_eq user e.0.items ≡ b → cond b (Some e.1) (folder_at user es) ≡ Some f
        → (folder_at user es ≡ Some f → folder_at u (set_value (λ k. bytes_eq user k.items) es new) ≡ cond (bytes_eq user u) (Some new) (folder_at u es))
        → folder_at u (cond b ((e.0, new) ∷ es) (e ∷ set_value (λ k. bytes_eq user k.items) es new))
        ≡ cond (bytes_eq user u) (Some new) (cond (bytes_eq u e.0.items) (Some e.1) (folder_at u es))
    by true own found after =
        let key : bytes_eq u e.0.items ≡ bytes_eq user u =
        ap (λ (m : List ℕ). bytes_eq u m) (sym (bytes_equal user e.0.items own)) ∙ bytes_flip u user in
        ap (λ b. cond b (Some new) (folder_at u es)) key ∙ twice (bytes_eq user u)
        ∙ sym (ap (λ b. cond (bytes_eq user u) (Some new) (cond b (Some e.1) (folder_at u es))) key)
    by false apart found after =
        ap (λ o. cond (bytes_eq u e.0.items) (Some e.1) o) (after found)
        ∙ other (bytes_eq u e.0.items) (bytes_eq user u)
        (λ same. ap (λ (m : List ℕ). bytes_eq m e.0.items) (sym (bytes_equal user u same)) ∙ apart)

at_own : (user u : List ℕ) (es : Entries) (f : Folder) → folder_at user es ≡ Some f → bytes_eq user u ≡ true → folder_at u es ≡ Some f
at_own user u es f found same = ap (λ (m : List ℕ). folder_at m es) (sym (bytes_equal user u same)) ∙ found

-- what is done to one folder is done to one user
pub edited : (user : List ℕ) (step : Sheet → Sheet) (uses takes : ℕ) (old new : Entries) (f g : Folder) → folder_at user old ≡ Some f
    → new ≡ set_value (λ k. bytes_eq user k.items) old g → sheet g ≡ step (sheet f) → places f ≤ places g + uses
    → length f.names.items ≤ length g.names.items + takes → g.roster.owner ≡ f.roster.owner
    → (IsNamed user f.names.items → IsNamed user g.names.items) → Edits user step uses takes old new
edited user step uses takes old new f g found made sheets room names owner named = record {
  sheets = λ u. by_sheet u (bytes_eq user u) refl (at u);
  own = λ domain u is. by_own domain u (bytes_eq user u) refl (at u) is;
  places = λ u. by_places u (bytes_eq user u) refl (at u);
  names = λ u. by_names u (bytes_eq user u) refl (at u);
  there = λ u. by_there u (bytes_eq user u) refl (at u);
}
  where
    at : (u : List ℕ) → folder_at u new ≡ cond (bytes_eq user u) (Some g) (folder_at u old)
    at u = ap (folder_at u) made ∙ at_set user u old f g found

    by_sheet : (u : List ℕ) (b : Bool) → bytes_eq user u ≡ b → folder_at u new ≡ cond b (Some g) (folder_at u old)
        → sheet_in (folder_at u new) ≡ cond b (step (sheet_in (folder_at u old))) (sheet_in (folder_at u old))
    by_sheet u true own is = ap sheet_in is ∙ sheets ∙ ap (λ o. step (sheet_in o)) (sym (at_own user u old f found own))
    by_sheet u false other is = ap sheet_in is

    by_own : (domain u : List ℕ) (b : Bool) → bytes_eq user u ≡ b → folder_at u new ≡ cond b (Some g) (folder_at u old)
        → IsOwn domain u (folder_at u old) → IsOwn domain u (folder_at u new)
    by_own domain u true own is before =
        let mine = subst (IsOwn domain u) (at_own user u old f found own) before in
        let same = bytes_equal user u own in
        subst (IsOwn domain u) (sym is)
        (owner ∙ mine.0, subst (λ (m : List ℕ). IsNamed m g.names.items) same (named (subst (λ (m : List ℕ). IsNamed m f.names.items) (sym same) mine.1)))
    by_own domain u false other is before = subst (IsOwn domain u) (sym is) before

    by_places : (u : List ℕ) (b : Bool) → bytes_eq user u ≡ b → folder_at u new ≡ cond b (Some g) (folder_at u old)
        → places_in (folder_at u old) ≤ places_in (folder_at u new) + cond b uses 0
    by_places u true own is =
        let before = ap places_in (at_own user u old f found own) in
        let after = ap places_in is in omega (arith, before, after, room)
    by_places u false other is = let after = ap places_in is in omega (arith, after)

    by_names : (u : List ℕ) (b : Bool) → bytes_eq user u ≡ b → folder_at u new ≡ cond b (Some g) (folder_at u old)
        → names_in (folder_at u old) ≤ names_in (folder_at u new) + cond b takes 0
    by_names u true own is =
        let before = ap names_in (at_own user u old f found own) in
        let after = ap names_in is in omega (arith, before, after, names)
    by_names u false other is = let after = ap names_in is in omega (arith, after)

    by_there : (u : List ℕ) (b : Bool) → bytes_eq user u ≡ b → folder_at u new ≡ cond b (Some g) (folder_at u old)
        → is_some (folder_at u new) ≡ is_some (folder_at u old)
    by_there u true own is = ap is_some is ∙ sym (ap is_some (at_own user u old f found own))
    by_there u false other is = ap is_some is

-- the same by another word for the user
pub found_by : (word user : List ℕ) (es : Entries) (f : Folder) → word ≡ user → Some f ≡ folder_at word es → folder_at user es ≡ Some f
found_by word user es f same found = ap (λ (m : List ℕ). folder_at m es) (sym same) ∙ sym found

pub edited_by : (word user : List ℕ) (step : Sheet → Sheet) (uses takes : ℕ) (old new : Entries) (f g : Folder) → word ≡ user
    → Some f ≡ folder_at word old → new ≡ set_value (λ k. bytes_eq word k.items) old g → sheet g ≡ step (sheet f) → places f ≤ places g + uses
    → length f.names.items ≤ length g.names.items + takes → g.roster.owner ≡ f.roster.owner
    → (IsNamed user f.names.items → IsNamed user g.names.items) → Edits user step uses takes old new
edited_by word user step uses takes old new f g same found made =
    edited user step uses takes old new f g (found_by word user old f same found)
    (made ∙ ap (λ (m : List ℕ). set_value (λ k. bytes_eq m k.items) old g) same)

-- the names stay
pub edited_here : (word user : List ℕ) (step : Sheet → Sheet) (uses : ℕ) (old new : Entries) (f g : Folder) → word ≡ user
    → Some f ≡ folder_at word old → new ≡ set_value (λ k. bytes_eq word k.items) old g → sheet g ≡ step (sheet f) → places f ≤ places g + uses
    → g.names ≡ f.names → g.roster.owner ≡ f.roster.owner → Edits user step uses 0 old new
edited_here word user step uses old new f g same found made sheets room names owner =
    let count = ap (λ ns. length ns.items) names in
    edited_by word user step uses 0 old new f g same found made sheets room (omega (arith, count)) owner
    (λ named. ap (λ ns. list_all (λ n. bytes_eq user n.items) ns.items) names ∙ named)

pub room_here : (word user : List ℕ) (es : Entries) (f : Folder) → word ≡ user → Some f ≡ folder_at word es
    → 0 < places_in (folder_at user es) → 0 < places f
room_here word user es f same found room = subst (λ o. 0 < places_in o) (found_by word user es f same found) room

-- the room of a user, as contracts see it
pub room_is : (u : List ℕ) (es : Entries) → room_of u (rooms es) ≡ room_in (folder_at u es)
room_is u [] = refl
room_is u (e ∷ es) = by (bytes_eq u e.0.items) (room_is u es)
  where
    by : (b : Bool) → room_of u (rooms es) ≡ room_in (folder_at u es)
        → cond b (room_in (Some e.1)) (room_of u (rooms es)) ≡ room_in (cond b (Some e.1) (folder_at u es))
    by true rest = refl
    by false rest = rest

-- a book is seen so where it has these folders
pub spare_is : (u : List ℕ) (b : BookRecord) (es : Entries) (domain : List ℕ) (k : Book)
    → record { domain = domain; book = k; rooms = rooms es } ≡ b → spare u b ≡ room_in (folder_at u es)
spare_is u b es domain k is = ap (spare u) (sym is) ∙ room_is u es

-- memory that is taken for one user
pub room_kept : (user : List ℕ) (old new : Entries) → Edits user (λ s. s) 0 0 old new → (u : List ℕ)
    → room_in (folder_at u old) ≤ room_in (folder_at u new)
room_kept user old new edit u = by (bytes_eq user u) (edit.places u) (edit.names u)
  where
    by : (b : Bool) → places_in (folder_at u old) ≤ places_in (folder_at u new) + cond b 0 0
        → names_in (folder_at u old) ≤ names_in (folder_at u new) + cond b 0 0 → room_in (folder_at u old) ≤ room_in (folder_at u new)
    by true places names = omega (arith, places, names)
    by false places names = omega (arith, places, names)

-- a folder more, of a user that had none

abbrev or_else : Option Folder → Option Folder → Option Folder
or_else None other = other
or_else (Some f) other = Some f

at_end : (u : List ℕ) (es : Entries) (key : Name) (g : Folder)
    → folder_at u (es ++ (key, g) ∷ []) ≡ or_else (folder_at u es) (cond (bytes_eq u key.items) (Some g) None)
at_end u [] key g = refl
at_end u (e ∷ es) key g = by (bytes_eq u e.0.items) (at_end u es key g)
  where
    by : (b : Bool) → folder_at u (es ++ (key, g) ∷ []) ≡ or_else (folder_at u es) (cond (bytes_eq u key.items) (Some g) None)
        → cond b (Some e.1) (folder_at u (es ++ (key, g) ∷ []))
        ≡ or_else (cond b (Some e.1) (folder_at u es)) (cond (bytes_eq u key.items) (Some g) None)
    by true rest = refl
    by false rest = rest

module _ (domain user : List ℕ) (es new : Entries) (key : Name) (g : Folder) (word : key.items ≡ user) (absent : folder_at user es ≡ None)
    (made : new ≡ es ++ (key, g) ∷ []) where
  opened : (u : List ℕ) → folder_at u new ≡ or_else (folder_at u es) (cond (bytes_eq u user) (Some g) None)
  opened u =
      ap (folder_at u) made ∙ at_end u es key g
      ∙ ap (λ (m : List ℕ). or_else (folder_at u es) (cond (bytes_eq u m) (Some g) None)) word

  pub opened_there : is_some (folder_at user new) ≡ true
  opened_there =
      ap is_some (opened user) ∙ ap (λ o. is_some (or_else o (cond (bytes_eq user user) (Some g) None))) absent
      ∙ ap (λ b. is_some (cond b (Some g) None)) (bytes_same user)

  pub opened_room : (u : List ℕ) → room_in (folder_at u es) ≤ room_in (folder_at u new)
  opened_room u = by (folder_at u es) refl (cond (bytes_eq u user) (Some g) None) (opened u)
    where
      by : (o : Option Folder) → folder_at u es ≡ o → (p : Option Folder) → folder_at u new ≡ or_else (folder_at u es) p
          → room_in (folder_at u es) ≤ room_in (folder_at u new)
      by (Some f) is p now =
          let same = ap room_in (now ∙ ap (λ o. or_else o p) is ∙ sym is) in omega (arith, same)
      by None is p now = let zero = ap room_in is in omega (arith, zero)

  pub opened_keeps : (k : Book) → sheet g ≡ empty_sheet → g.roster.owner ≡ bare_of domain user → g.names.items ≡ []
      → Keeps domain k es → Keeps domain k new
  opened_keeps k blank owner nameless before = record {
    sheets = λ u. by_sheet u (folder_at u es) refl (bytes_eq u user) (opened u) ∙ before.sheets u;
    own = λ u. by_own u (folder_at u es) refl (bytes_eq u user) refl (opened u) (before.own u);
    askers = λ a b has. by_there a (folder_at a es) refl (cond (bytes_eq a user) (Some g) None) (opened a) (before.askers a b has);
  }
    where
      by_sheet : (u : List ℕ) (o : Option Folder) → folder_at u es ≡ o → (b : Bool) → folder_at u new ≡ or_else (folder_at u es) (cond b (Some g) None)
          → sheet_in (folder_at u new) ≡ sheet_in (folder_at u es)
      by_sheet u (Some f) is b now = ap sheet_in (now ∙ ap (λ o. or_else o (cond b (Some g) None)) is ∙ sym is)
      by_sheet u None is true now = ap sheet_in (now ∙ ap (λ o. or_else o (Some g)) is) ∙ blank ∙ sym (ap sheet_in is)
      by_sheet u None is false now = ap sheet_in (now ∙ ap (λ o. or_else o None) is) ∙ sym (ap sheet_in is)

      by_own : (u : List ℕ) (o : Option Folder) → folder_at u es ≡ o → (b : Bool) → bytes_eq u user ≡ b
          → folder_at u new ≡ or_else (folder_at u es) (cond b (Some g) None) → IsOwn domain u (folder_at u es) → IsOwn domain u (folder_at u new)
      by_own u (Some f) is b same now own = subst (IsOwn domain u) (sym (now ∙ ap (λ o. or_else o (cond b (Some g) None)) is ∙ sym is)) own
      by_own u None is true same now own =
          subst (IsOwn domain u) (sym (now ∙ ap (λ o. or_else o (Some g)) is))
          (owner ∙ ap (bare_of domain) (sym (bytes_equal u user same)), ap (list_all (λ n. bytes_eq u n.items)) nameless)
      by_own u None is false same now own = subst (IsOwn domain u) (sym (now ∙ ap (λ o. or_else o None) is)) tt

      by_there : (a : List ℕ) (o : Option Folder) → folder_at a es ≡ o → (p : Option Folder) → folder_at a new ≡ or_else (folder_at a es) p
          → is_some (folder_at a es) ≡ true → is_some (folder_at a new) ≡ true
      by_there a (Some f) is p now there = ap is_some (now ∙ ap (λ o. or_else o p) is)
      by_there a None is p now there = let wrong : false ≡ true = sym (ap is_some is) ∙ there in absurd (cc)

pub none_there : (o : Option Folder) → is_some o ≡ false → o ≡ None
none_there None is = refl
none_there (Some f) is = cc
