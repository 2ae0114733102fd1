-- One more worker, one more place.
use Rattle.std.proofs.Common.{◌≡◌, ◌+◌, ◌<◌, suc, Bool, true, false, List, [], ◌∷◌, ◌++◌, map, length, All, append_assoc, append-nil, refl, sym, ap, subst, ◌∙◌, arith}
use Rattle.std.proofs.Common.{length-append}
use Rattle.std.proofs.lemmas.List.{map-append}
use Rattle.std.proofs.lemmas.List.Elements.{All-push, All-tail}
use Rattle.std.specs.Prelude.{◌||◌, ◌⊎◌}
use Rattle.std.proofs.Common.{inl, inr}
use Rattle.outside.specs.declared.poller.PollPost.{PollPost}
use Rattle.outside.specs.Posts.{all_of}
use Rattle.conn_staff.specs.declared.bench.Bench.{Bench}
use Rattle.conn_staff.specs.Workers.{AllHaveRoom, HasRoom}

-- what is seen of those that are done goes before what is left
pub gained : (A B : Type 0) (f : A → B) (xs ys : List A) (x : A) (left left' all : List B) → ys ≡ xs ++ x ∷ [] → left ≡ f x ∷ left'
    → map f xs ++ left ≡ all → map f ys ++ left' ≡ all
gained A B f xs ys x left left' all more next before =
    ap (λ (l : List A). map f l ++ left') more ∙ ap (λ (l : List B). l ++ left') (map-append f xs (x ∷ []))
    ∙ append_assoc (map f xs) (f x ∷ []) left' ∙ ap (λ (l : List B). map f xs ++ l) (sym next) ∙ before

all_snoc : (A B : Type 0) (f : A → List B) (xs : List A) (x : A) → all_of (map f (xs ++ x ∷ [])) ≡ all_of (map f xs) ++ f x
all_snoc A B f [] x = append-nil (f x)
all_snoc A B f (y ∷ ys) x =
    ap (λ (l : List B). f y ++ l) (all_snoc A B f ys x) ∙ sym (append_assoc (f y) (all_of (map f ys)) (f x))

pub gained_all : (A B : Type 0) (f : A → List B) (xs ys : List A) (x : A) (left left' all : List B) → ys ≡ xs ++ x ∷ [] → f x ++ left' ≡ left
    → all_of (map f xs) ++ left ≡ all → all_of (map f ys) ++ left' ≡ all
gained_all A B f xs ys x left left' all more next before =
    ap (λ (l : List A). all_of (map f l) ++ left') more ∙ ap (λ (l : List B). l ++ left') (all_snoc A B f xs x)
    ∙ append_assoc (all_of (map f xs)) (f x) left' ∙ ap (λ (l : List B). all_of (map f xs) ++ l) next ∙ before

-- what was left of all goes to what is done
pub moved_all : (A B : Type 0) (f : A → List B) (xs xs' : List A) (x : A) (done done' all : List B) → xs ≡ x ∷ xs' → done' ≡ done ++ f x
    → done ++ all_of (map f xs) ≡ all → done' ++ all_of (map f xs') ≡ all
moved_all A B f xs xs' x done done' all next more before =
    ap (λ (l : List B). l ++ all_of (map f xs')) more ∙ append_assoc done (f x) (all_of (map f xs'))
    ∙ ap (λ (l : List A). done ++ all_of (map f l)) (sym next) ∙ before

pub one_more : (A : Type 0) (P : A → Type 0) (xs ys : List A) (x : A) → ys ≡ xs ++ x ∷ [] → All P xs → P x → All P ys
one_more A P xs ys x more all one = subst (All P) (sym more) (All-push P xs x all one)

pub the_rest : (A : Type 0) (P : A → Type 0) (xs xs' : List A) (x : A) → xs ≡ x ∷ xs' → All P xs → All P xs'
the_rest A P xs xs' x next all = All-tail P x xs' (subst (All P) next all)

pub the_first : (A : Type 0) (P : A → Type 0) (xs xs' : List A) (x : A) → xs ≡ x ∷ xs' → All P xs → P x
the_first A P xs xs' x next all = let some : 0 < length (x ∷ xs') = omega arith in subst (All P) next all 0 x some

pub map_length : (A B : Type 0) (f : A → B) (xs : List A) → length (map f xs) ≡ length xs
map_length A B f [] = refl
map_length A B f (x ∷ xs) = ap suc (map_length A B f xs)

pub fewer : (A : Type 0) (xs xs' : List A) (x : A) → xs ≡ x ∷ xs' → length xs ≡ length xs' + 1
fewer A xs xs' x next = let h : length xs ≡ length (x ∷ xs') = ap length next in omega (arith, h)

pub longer : (A : Type 0) (xs ys : List A) (x : A) → ys ≡ xs ++ x ∷ [] → length ys ≡ length xs + 1
longer A xs ys x more = let h = ap length more ∙ length-append xs (x ∷ []) in omega (arith, h)

pub fewer_all : (A B : Type 0) (f : A → List B) (xs xs' : List A) (x : A) → xs ≡ x ∷ xs'
    → length (all_of (map f xs)) ≡ length (f x) + length (all_of (map f xs'))
fewer_all A B f xs xs' x next = ap (λ (l : List A). length (all_of (map f l))) next ∙ length-append (f x) (all_of (map f xs'))

pub room_next : (P L C I : Type 0) (bs bs' : List (Bench L C I)) (ps ps' : List (PollPost P C I)) (b : Bench L C I) (p : PollPost P C I)
    → bs ≡ b ∷ bs' → ps ≡ p ∷ ps' → AllHaveRoom P L C I bs ps → HasRoom L C I (length p.sources.items) b × AllHaveRoom P L C I bs' ps'
room_next P L C I bs bs' ps ps' b p first second room =
    subst (λ (l : List (PollPost P C I)). AllHaveRoom P L C I (b ∷ bs') l) second (subst (λ (l : List (Bench L C I)). AllHaveRoom P L C I l ps) first room)

-- whether one failed
pub failed_next : (old new one rest all : Bool) → (old ≡ true) × (new ≡ true) ⊎ (old ≡ false) × (new ≡ one) → old || (one || rest) ≡ all → new || rest ≡ all
failed_next true new one rest all (inl (a, b)) before = ap (λ (x : Bool). x || rest) b ∙ before
failed_next false new one rest all (inl (a, b)) before = absurd (let e : false ≡ true = a in cc)
failed_next true new one rest all (inr (a, b)) before = absurd (let e : true ≡ false = a in cc)
failed_next false new one rest all (inr (a, b)) before = ap (λ (x : Bool). x || rest) b ∙ before
