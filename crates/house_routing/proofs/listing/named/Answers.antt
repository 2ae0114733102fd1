use Rattle.std.proofs.Common.{◌≡◌, IfOk, List, ℕ, ap, subst, ◌∙◌}
use Rattle.std.specs.Prelude.{flat_map}
use Rattle.stanza_model.specs.declared.here.Here.{Here}
use Rattle.session_table.specs.Tables.{session_of}
use Rattle.house_routing.specs.Listings.{here_in}
use Rattle.house_routing.proofs.ListedLemmas.{named_found}
use Rattle.house_routing.proofs.listing.named.Goals as goal

pub returns : goal.returns
returns c =
    let a = c.args.world.now in
    let find : List ℕ → List Here = flat_map (λ s. here_in s (session_of s a.table)) in
    subst (λ (hs : List Here). IfOk c.all_here.result (λ v. v.items ≡ hs))
    (ap find (c.as_slice.ensures.value ∙ c.in_ok-numbers.ensures) ∙ named_found a c.args.addresses.now c.requires c.session.ensures.rises)
    c.all_here.ensures
