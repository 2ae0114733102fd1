use Rattle.std.proofs.Common.{◌≡◌, ◌∙◌, ◌+◌, ◌<◌, ap, sym, subst, length, drop, List, arith}
use Rattle.rsm_paging.specs.declared.ask.Row.{Row}
use Rattle.mam_archive.specs.Archives.{Archive, room}
use Rattle.mam_archive.specs.Sounds.{IsIndexed}
use Rattle.mam_archive.proofs.RoomLemmas.{room-kept}
use Rattle.mam_archive.proofs.SoundLemmas.{drop-one, sound-dropped, sound-forgotten}
use Rattle.mam_archive.proofs.archive.Archive.drop_oldest.Goals as goal

pub invariant_of-self : goal.invariant_of-self
invariant_of-self c =
    let a = c.self.inside in
    let is : c.args.self.now.kept ≡ drop a.gone a.rows.items = sym (ap (λ (v : Archive). v.kept) c.self.view_is) in
    let rows : c.later.result.now ≡ drop a.gone a.rows.items = c.later.ensures ∙ ap (drop a.gone) c.as_slice.ensures.value in
    let some = subst (λ (l : List Row). 0 < length l) is c.requires in
    let new = c.lose_text-length.new.rows.items in
    record {
      sound =
          sound-forgotten new c.forget.new.items.items (a.gone + 1) a.made _
          (sound-dropped a.rows.items new a.gone a.made a.bytes _ c.self.invariant.sound some c.lose_text-length.ensures.later
          c.lose_text-length.ensures.as_many c.lose_text-length.ensures.length)
          c.forget.ensures.items;
      indexed =
          subst (λ (l : List Row). IsIndexed a.hash_key l a.made c.drop_first.new.self)
          (ap (drop 1) rows ∙ sym (drop-one a.gone a.rows.items) ∙ sym c.lose_text-length.ensures.later ∙ sym c.forget.ensures.items)
          c.drop_first.ensures.indexed;
    }

pub invariant_of-self-else-self-ge-MOST_GONE : goal.invariant_of-self-else-self-ge-MOST_GONE
invariant_of-self-else-self-ge-MOST_GONE c =
    let a = c.self.inside in
    let is : c.args.self.now.kept ≡ drop a.gone a.rows.items = sym (ap (λ (v : Archive). v.kept) c.self.view_is) in
    let rows : c.later.result.now ≡ drop a.gone a.rows.items = c.later.ensures ∙ ap (drop a.gone) c.as_slice.ensures.value in
    let some = subst (λ (l : List Row). 0 < length l) is c.requires in
    let new = c.lose_text-length.new.rows.items in
    record {
      sound =
          sound-dropped a.rows.items new a.gone a.made a.bytes _ c.self.invariant.sound some c.lose_text-length.ensures.later
          c.lose_text-length.ensures.as_many c.lose_text-length.ensures.length;
      indexed =
          subst (λ (l : List Row). IsIndexed a.hash_key l a.made c.drop_first.new.self)
          (ap (drop 1) rows ∙ sym (drop-one a.gone a.rows.items) ∙ sym c.lose_text-length.ensures.later) c.drop_first.ensures.indexed;
    }

pub returns-then-self-ge-MOST_GONE-clause-kept : goal.returns-then-self-ge-MOST_GONE-clause-kept
returns-then-self-ge-MOST_GONE-clause-kept c =
    let a = c.self.inside in
    let is : c.args.self.now.kept ≡ drop a.gone a.rows.items = sym (ap (λ (v : Archive). v.kept) c.self.view_is) in
    c.forget.ensures.items ∙ c.lose_text-length.ensures.later ∙ drop-one a.gone a.rows.items ∙ ap (drop 1) (sym is)

pub returns-else-self-ge-MOST_GONE-clause-kept : goal.returns-else-self-ge-MOST_GONE-clause-kept
returns-else-self-ge-MOST_GONE-clause-kept c =
    let a = c.self.inside in
    let is : c.args.self.now.kept ≡ drop a.gone a.rows.items = sym (ap (λ (v : Archive). v.kept) c.self.view_is) in
    c.lose_text-length.ensures.later ∙ drop-one a.gone a.rows.items ∙ ap (drop 1) (sym is)

pub returns-then-self-ge-MOST_GONE-clause-room : goal.returns-then-self-ge-MOST_GONE-clause-room
returns-then-self-ge-MOST_GONE-clause-room c = λ p.
    let a = c.self.inside in
    let seen = ap (room p) c.self.view_is in
    let kept = room-kept a.hash_key p a.made a.index.bare.entries a.index.full.entries c.drop_first.new.self.bare.entries c.drop_first.new.self.full.entries
    c.drop_first.ensures.bare c.drop_first.ensures.full in
    omega (arith, seen, kept)

pub returns-else-self-ge-MOST_GONE-clause-room : goal.returns-else-self-ge-MOST_GONE-clause-room
returns-else-self-ge-MOST_GONE-clause-room c = λ p.
    let a = c.self.inside in
    let seen = ap (room p) c.self.view_is in
    let kept = room-kept a.hash_key p a.made a.index.bare.entries a.index.full.entries c.drop_first.new.self.bare.entries c.drop_first.new.self.full.entries
    c.drop_first.ensures.bare c.drop_first.ensures.full in
    omega (arith, seen, kept)
