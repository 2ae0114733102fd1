use Rattle.std.proofs.Common.{◌≡◌, ◌∙◌, ap, sym, subst, drop, List, ℕ}
use Rattle.rsm_paging.specs.Pages.{Follow, Rises}
use Rattle.rsm_paging.specs.declared.ask.Row.{Row}
use Rattle.rsm_paging.proofs.ListedLemmas.{follow-rises}
use Rattle.mam_archive.proofs.SoundLemmas.{numbered-follow}
use Rattle.mam_archive.proofs.archive.Archive.rows.Goals as goal

pub returns-clause-follow : goal.returns-clause-follow
returns-clause-follow c =
    let a = c.self.inside in
    let is : c.later.result.now ≡ drop a.gone a.rows.items = c.later.ensures ∙ ap (drop a.gone) c.as_slice.ensures.value in
    let first = c.self.invariant.sound.first in
    subst (λ (l : List Row). (n : ℕ) × Follow n l) (sym is) (first.0, numbered-follow first.0 (drop a.gone a.rows.items) first.2)

pub returns-clause-rises : goal.returns-clause-rises
returns-clause-rises c =
    let a = c.self.inside in
    let is : c.later.result.now ≡ drop a.gone a.rows.items = c.later.ensures ∙ ap (drop a.gone) c.as_slice.ensures.value in
    let first = c.self.invariant.sound.first in
    subst (λ (l : List Row). Rises l) (sym is)
    (follow-rises first.0 (drop a.gone a.rows.items) (numbered-follow first.0 (drop a.gone a.rows.items) first.2))
