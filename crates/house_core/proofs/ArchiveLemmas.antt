-- What a turn keeps of messages.
use Rattle.std.proofs.Common.{◌≡◌, ◌+◌, ◌*◌, ◌^◌, ◌<◌, ◌≤◌, List, [], ◌∷◌, length, sym, ap, subst, ◌∙◌, arith}
use Rattle.std.specs.List.{AllByRecursion, filter}
use Rattle.stanza_model.specs.declared.effect.Change.TheVariants.{RoomRow}
use Rattle.stanza_model.specs.declared.effect.Effect.{Effect}
use Rattle.stanza_model.specs.declared.effect.Effect.TheVariants.{Keep, Set}
use Rattle.archive_table.specs.Archives.{Archives}
use Rattle.archive_table.specs.Tables.{TableRecord, archives_of}
use Rattle.house_model.specs.Archiving.{AddsFew, is_row}
use Rattle.house_model.specs.Fitting.{AreSmall}
use Rattle.house_world.specs.Hosting.{Archived, AreArchived, filed_all}
use Rattle.house_world.specs.Readiness.{AreFilable, HasNumbers, HavePlaces, added}

-- the texts that effects add have at most so many bytes
added_small : (es : List Effect) → AreSmall es → added es ≤ length (filter is_row es) * 300000
added_small [] small = omega arith
added_small (Keep user peer text moment ∷ es) small = (let more = added_small es small.1 in omega (arith, small.0, more))
added_small (Set (RoomRow n peer text moment) ∷ es) small = (let more = added_small es small.1 in omega (arith, small.0, more))
added_small (e ∷ es) small = (let more = added_small es small.1 in omega (arith, more))

module _ (all : List Effect) (a : Archives) (few : AddsFew all) (small : AreSmall all) (is : AreArchived (2 ^ 63 + 2 ^ 62) a) where
  bytes_counted : a.bytes + added all < 2 ^ 64
  bytes_counted =
      let text = added_small all small in
      let rows = few.all in
      let most = is.short.bytes in
      omega (arith, text, rows, most)

  number_counted : (e : Effect) → HasNumbers all a e
  number_counted (Keep user peer text moment) = record {
    numbered = (let made = is.rows.users user in let more = few.users user in omega (arith, made, more));
    counted = bytes_counted;
  }
  number_counted (Set (RoomRow n peer text moment)) = record {
    numbered = (let made = is.rows.rooms n in let more = few.rooms n in omega (arith, made, more));
    counted = bytes_counted;
  }
  number_counted e = tt

  numbers_counted : (es : List Effect) → AllByRecursion (HasNumbers all a) es
  numbers_counted [] = tt
  numbers_counted (e ∷ es) = (number_counted e, numbers_counted es)

-- what a stanza adds can be filed, once the memory is taken
pub few_filable : (es : List Effect) (t : TableRecord) (a : Archives) → archives_of t ≡ a → AreArchived (2 ^ 63 + 2 ^ 62) a → AddsFew es → AreSmall es
    → HavePlaces es t → AreFilable es t
few_filable es t a same is few small places = record {
  places = places;
  numbers = subst (λ (x : Archives). AllByRecursion (HasNumbers es x) es) (sym same) (numbers_counted es a few small is es);
  ends = few.ends;
}

-- a turn that files it where the archives are still as they were
pub archived_by : (es : List Effect) (a checked made new : Archives) → checked ≡ a → made ≡ checked → new ≡ filed_all es made
    → Archived checked (filed_all es checked) → Archived a new
archived_by es a checked made new first second third archives =
    subst (λ (x : Archives). Archived x new) first
    (subst (λ (x : Archives). Archived checked x) (sym (third ∙ ap (filed_all es) second)) archives)
