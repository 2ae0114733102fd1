use Rattle.std.proofs.Common.{rules, ◌≡◌, ◌∷◌, ◌+◌, ◌<◌, length, drop, map, sym, ap, subst, ◌∙◌}
use Rattle.std.proofs.lemmas.List.{drop_more}
use Rattle.contact_table.specs.Books.{bare_of}
use Rattle.contact_table.specs.Folders.{IsOwn}
use Rattle.contact_table.proofs.EntryLemmas.{found_by}
use Rattle.contact_table.proofs.NameLemmas.{next_address}
use Rattle.contact_table.proofs.folders.addresses.Goals as goal

pub loop-name-preserved : goal.loop-name-preserved
loop-name-preserved c =
    let name = c.name-item.result.items in
    let i = c.loop-name.name-index in
    let names = c.names-name-items.result.now in
    let below : i < length names = search rules in
    let next : drop i names ≡ c.name-item.result ∷ drop (i + 1) names =
    drop_more names i c.name-item.result below ∙ ap (λ n. n ∷ drop (i + 1) names) (sym c.name-item.is) in
    record {
      there = search rules;
      made = λ domain own.
          let found = found_by c.as_slice.result.now name c.args.folders.now.entries c.in-Some.folder.now c.as_slice.ensures.value c.in-Some.ensures.value in
          let mine = subst (IsOwn domain name) found (own name) in
          next_address (bare_of domain) names i c.name-item.result c.in_ok-copy-in-Some.field-0 c.loop-name.found.items c.push.new.self.items
          (map (bare_of domain) c.args.order.now.users)
          next c.in_ok-push-in-Some.ensures.items (c.in_ok-copy-in-Some.ensures ∙ mine.0) (c.loop-name.invariant.made domain own);
    }
