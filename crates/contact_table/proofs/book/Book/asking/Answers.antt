use Rattle.std.proofs.Common.{map, Some, None, is_some, ap, ◌∙◌}
use Rattle.std.specs.List.{list_all}
use Rattle.contact_table.specs.Books.{bare_of, who_asked}
use Rattle.contact_table.specs.Folders.{folder_at}
use Rattle.contact_table.specs.Tables.{book_after}
use Rattle.contact_table.proofs.KeepLemmas.{askers_there, ok_carried, told_by}
use Rattle.contact_table.proofs.book.Book.asking.Goals as goal

pub addresses-requires : goal.addresses-requires
addresses-requires c = record {
  there =
      let es = c.self.inside.folders.entries in
      let told = told_by c.self.inside.domain c.bytes.result.now c.args.user.now (book_after c.self.inside.log.entries) c.self.inside.folders.entries
      (Some c.in-Some.folder.now)
      c.bytes.ensures.bytes c.in-Some.ensures.value c.self.invariant in
      ap (λ s. list_all (λ u. is_some (folder_at u es)) s.who_asked) told
      ∙ askers_there c.self.inside.domain c.args.user.now (book_after c.self.inside.log.entries) es c.self.invariant;
}

pub returns-in-Some : goal.returns-in-Some
returns-in-Some c =
    let domain = c.self.inside.domain in
    let user = c.args.user.now in
    let told = told_by c.self.inside.domain c.bytes.result.now c.args.user.now (book_after c.self.inside.log.entries) c.self.inside.folders.entries
    (Some c.in-Some.folder.now)
    c.bytes.ensures.bytes c.in-Some.ensures.value c.self.invariant in
    ok_carried c.addresses.result (λ v. v.items) (map (bare_of domain) c.in-Some.folder.now.who_asked.users)
    (map (bare_of c.args.self.now.domain) (who_asked c.args.self.now.book user)) (c.addresses.ensures domain c.self.invariant.own)
    (ap (λ s. map (bare_of domain) s.who_asked) told ∙ ap (λ b. map (bare_of b.domain) (who_asked b.book user)) c.self.view_is)

pub returns-in-None : goal.returns-in-None
returns-in-None c =
    let told = told_by c.self.inside.domain c.bytes.result.now c.args.user.now (book_after c.self.inside.log.entries) c.self.inside.folders.entries None
    c.bytes.ensures.bytes c.in-None.ensures.value c.self.invariant in
    c.new.ensures.items ∙ ap (λ s. map (bare_of c.self.inside.domain) s.who_asked) told
    ∙ ap (λ b. map (bare_of b.domain) (who_asked b.book c.args.user.now)) c.self.view_is
