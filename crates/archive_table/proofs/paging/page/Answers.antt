use Rattle.std.proofs.Common.{◌≡◌, List, sym, ap, subst}
use Rattle.std.specs.Prelude.{Option, Result, Ok, Err, IfOk}
use Rattle.std.specs.Option.{option_copied}
use Rattle.mam_archive.specs.Archives.{Archive}
use Rattle.rsm_paging.specs.declared.ask.Row.{Row}
use Rattle.rsm_paging.specs.Pages.{IsPage}
use Rattle.archive_table.specs.Pages.{page_of}
use Rattle.archive_table.specs.Tables.{rows_of}
use Rattle.archive_table.proofs.ShownLemmas.{one-page}
use Rattle.archive_table.proofs.paging.page.Goals as goal

ok-map : {A E : Type 0} (P Q : A → Type 0) (r : Result A E) → ((a : A) → P a → Q a) → IfOk r P → IfOk r Q
ok-map P Q (Ok a) f p = f a p
ok-map P Q (Err e) f p = tt

pub returns-in-Some-clause-page : goal.returns-in-Some-clause-page
returns-in-Some-clause-page c =
    let rows : List Row = c.in-Some.archive.now.kept in
    let filter = c.args.filter.now in
    let ask = c.args.ask.now in
    let kept : rows ≡ (rows_of (option_copied c.args.archive)).kept =
    sym (ap (λ (o : Option Archive). (rows_of o).kept) (ap option_copied c.in-Some.is)) in
    subst (λ (l : List Row). IfOk c.page.result (λ p. p ≡ page_of l filter ask)) kept
    (ok-map (IsPage rows filter ask) (λ p. p ≡ page_of rows filter ask) c.page.result (λ p is. one-page rows filter ask p is) c.page.ensures.page)
