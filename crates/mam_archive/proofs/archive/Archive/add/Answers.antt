use Rattle.std.proofs.Common.{◌≡◌, ◌∙◌, ℕ, refl, ◌+◌, ◌-◌, ◌^◌, ◌<◌, ◌++◌, ◌∷◌, [], ap, sym, subst, length, drop, List, arith}
use Rattle.std.proofs.lemmas.List.{drop-append-le}
use Rattle.rsm_paging.specs.declared.ask.Row.{Row}
use Rattle.mam_archive.specs.Archives.{Archive, room}
use Rattle.mam_archive.specs.Sounds.{IsIndexed, IsSound}
use Rattle.mam_archive.proofs.RoomLemmas.{free-bare, free-full, room-used}
use Rattle.mam_archive.proofs.SoundLemmas.{sound-added, stamps-below, texts-le}
use Rattle.mam_archive.proofs.archive.Archive.add.Goals as goal

pub add-requires-clause-bare : goal.add-requires-clause-bare
add-requires-clause-bare c =
    let a = c.self.inside in
    let more = c.make_place.ensures.room c.args.peer in
    let some = c.requires.room in
    free-bare a.hash_key c.args.peer (drop a.gone a.rows.items) a.made a.index.bare.entries a.index.full.entries c.self.invariant.indexed.bare
    (subst (λ (v : Archive). 0 < room c.args.peer v) (sym c.self.view_is) (omega (arith, more, some)))

pub add-requires-clause-full : goal.add-requires-clause-full
add-requires-clause-full c =
    let a = c.self.inside in
    let more = c.make_place.ensures.room c.args.peer in
    let some = c.requires.room in
    free-full a.hash_key c.args.peer (drop a.gone a.rows.items) a.made a.index.bare.entries a.index.full.entries c.self.invariant.indexed.full
    (subst (λ (v : Archive). 0 < room c.args.peer v) (sym c.self.view_is) (omega (arith, more, some)))

pub overflow_add-self : goal.overflow_add-self
overflow_add-self c =
    let a = c.self.inside in
    let few = c.self.invariant.sound.few in
    let texts = c.self.invariant.sound.texts in
    let bound = c.length_of-length.ensures.bound in
    omega (arith, few, texts, bound, texts-le c.self.invariant.sound.first.0 (drop a.gone a.rows.items) c.self.invariant.sound.first.2)

pub invariant_of-self : goal.invariant_of-self
invariant_of-self c =
    let a = c.self.inside in
    let row : Row = record { id = a.made + 1; stamp = c.stamp_after-stamp.result; peer = c.args.peer; text = c.args.text } in
    let kept : List Row = drop a.gone a.rows.items in
    let is : kept ≡ c.make_place.new.self.kept = ap (λ (v : Archive). v.kept) c.self.view_is in
    let slice : c.later.result.now ≡ kept = c.later.ensures ∙ ap (drop a.gone) c.as_slice.ensures.value in
    let few = subst (λ (l : List Row). length l < 10000) (sym is) c.make_place.ensures.few in
    let long = c.length_of-length.ensures.length in
    let short = subst (λ (k : ℕ). k < 2 ^ 64) long c.length_of-length.ensures.bound in
    let late = stamps-below c.rows.result.now kept (length c.args.self.now.kept + 1 - 10000) c.args.moment row.stamp c.rows.ensures.stamps
    c.stamp_after-stamp.ensures
    (is ∙ c.make_place.ensures.kept ∙ ap (drop (length c.args.self.now.kept + 1 - 10000)) (sym c.rows.ensures.kept)) in
    let pushed : c.push_reserved.new.self.items ≡ a.rows.items ++ row ∷ [] = c.push_reserved.ensures.items in
    record {
      sound =
          subst (λ (k : ℕ). IsSound c.push_reserved.new.self.items a.gone (a.made + 1) (a.bytes + k)) (sym long)
          (subst (λ (l : List Row). IsSound l a.gone (a.made + 1) (a.bytes + length row.text)) (sym pushed)
          (sound-added a.rows.items row a.gone a.made a.bytes c.self.invariant.sound few refl short late));
      indexed =
          subst (λ (l : List Row). IsIndexed a.hash_key l (a.made + 1) c.add.new.self)
          (ap (λ (l : List Row). l ++ row ∷ []) slice ∙ sym (drop-append-le a.gone a.rows.items (row ∷ []) c.self.invariant.sound.there)
          ∙ ap (drop a.gone) (sym pushed))
          (c.add.ensures.indexed a.made row (subst (λ (l : List Row). IsIndexed a.hash_key l a.made a.index) (sym slice) c.self.invariant.indexed) refl refl);
    }

pub returns-clause-room : goal.returns-clause-room
returns-clause-room c = λ p.
    let a = c.self.inside in
    let used = room-used a.hash_key p a.made a.index.bare.entries a.index.full.entries c.add.new.self.bare.entries c.add.new.self.full.entries
    c.add.ensures.bare c.add.ensures.full in
    let seen = ap (room p) c.self.view_is in
    let kept = c.make_place.ensures.room p in
    omega (arith, used, seen, kept)
