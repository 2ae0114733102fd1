-- Memory that is taken for the rows of effects, one after another.
use Rattle.std.proofs.Common.{◌≡◌, ℕ, ◌+◌, ◌<◌, ◌≤◌, List, [], ◌∷◌, ◌++◌, take, get_or, length, sym, ap, subst, arith}
use Rattle.std.specs.List.{AllByRecursion}
use Rattle.std.proofs.lemmas.List.{take_all, take_more}
use Rattle.jid_core.specs.Addresses.{Address}
use Rattle.stanza_model.specs.declared.effect.Change.TheVariants.{RoomRow}
use Rattle.stanza_model.specs.declared.effect.Effect.{Effect}
use Rattle.stanza_model.specs.declared.effect.Effect.TheVariants.{Keep, Set}
use Rattle.archive_table.specs.Tables as archive
use Rattle.archive_table.specs.Tables.{RoomArchive, UserArchive, room_archive, room_spare, spare_in, user_archive, user_spare}
use Rattle.house_world.specs.Readiness.{HasPlaces}

-- one more of them has it, and each one before it still has
all_and : {A : Type 0} (P Q : A → Type 0) (xs : List A) (x : A) → ((y : A) → P y → Q y) → AllByRecursion P xs → Q x → AllByRecursion Q (xs ++ x ∷ [])
all_and P Q [] x keeps was has = (has, tt)
all_and P Q (y ∷ ys) x keeps was has = (keeps y was.0, all_and P Q ys x keeps was.1 has)

pub one_taken : {A : Type 0} (P Q : A → Type 0) (xs : List A) (i : ℕ) (x d : A) → i < length xs → x ≡ get_or xs i d
    → ((y : A) → P y → Q y) → AllByRecursion P (take i xs) → Q x → AllByRecursion Q (take (i + 1) xs)
one_taken P Q xs i x d low is keeps was has =
    subst (λ ys. AllByRecursion Q ys) (sym (take_more xs i d low)) (all_and P Q (take i xs) (get_or xs i d) keeps was (subst Q is has))

pub all_taken : {A : Type 0} (P : A → Type 0) (xs : List A) (i : ℕ) → length xs ≤ i → AllByRecursion P (take i xs) → AllByRecursion P xs
all_taken P xs i ends was = subst (λ ys. AllByRecursion P ys) (take_all i xs ends) was

-- what one archive has grows, and the others stay as they are

pub rooms_keep : (es : List Effect) (t u : archive.TableRecord) → ((user : List ℕ) (p : Address) → user_spare user p t ≤ user_spare user p u)
    → u.rooms ≡ t.rooms → (e : Effect) → HasPlaces es t e → HasPlaces es u e
rooms_keep es t u more same (Keep user peer text moment) has = (let spare = more user peer in omega (arith, has, spare))
rooms_keep es t u more same (Set (RoomRow n peer text moment)) has =
    (let spare = ap (λ (xs : List RoomArchive). spare_in (room_archive n xs) peer) same in omega (arith, has, spare))
rooms_keep es t u more same e has = tt

pub users_keep : (es : List Effect) (t u : archive.TableRecord) → ((n : ℕ) (p : Address) → room_spare n p t ≤ room_spare n p u)
    → u.users ≡ t.users → (e : Effect) → HasPlaces es t e → HasPlaces es u e
users_keep es t u more same (Keep user peer text moment) has =
    (let spare = ap (λ (xs : List UserArchive). spare_in (user_archive user xs) peer) same in omega (arith, has, spare))
users_keep es t u more same (Set (RoomRow n peer text moment)) has = (let spare = more n peer in omega (arith, has, spare))
users_keep es t u more same e has = tt
