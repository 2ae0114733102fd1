use Rattle.std.proofs.Common.{◌≡◌, ◌++◌, ℕ, List, map, drop, true, is_some}
use Rattle.std.specs.List.{list_all}
use Rattle.contact_table.specs.Books.{bare_of}
use Rattle.contact_table.specs.Folders.{IsOwn, folder_at}
use Rattle.contact_table.proofs.folders.addresses.Given as goal

abbrev pub invariant-loop-name : goal.invariant-loop-name
invariant-loop-name l = record {
  there : list_all (λ u. is_some (folder_at u l.folders.entries)) (map (λ n. n.items) (drop l.name-index l.name-items)) ≡ true;
  made : (domain : List ℕ) → ((u : List ℕ) → IsOwn domain u (folder_at u l.folders.entries))
      → l.found.items ++ map (bare_of domain) (map (λ n. n.items) (drop l.name-index l.name-items)) ≡ map (bare_of domain) l.order.users;
}
