use Rattle.std.proofs.Common.{List, sym, subst, refl, arith}
use Rattle.rsm_paging.specs.declared.ask.Row.{Row}
use Rattle.mam_archive.specs.Sounds.{IsWhole}
use Rattle.mam_archive.specs.declared.peers.Extent.TheVariants.{Bare, Full}
use Rattle.mam_archive.proofs.ListLemmas.{listed-none}
use Rattle.mam_archive.proofs.archive.Archive.new.Goals as goal

pub invariant_of-result : goal.invariant_of-result
invariant_of-result c =
    let index = c.new-2.result in
    subst (λ (l : List Row). IsWhole c.args.hash_key l 0 0 0 index) (sym c.new.ensures.items) (record {
      sound = record {
        there = omega arith;
        few = omega arith;
        last = omega arith;
        first = (1, omega arith, tt);
        stamps = tt;
        texts = refl;
      };
      indexed = record {
        bare = listed-none c.args.hash_key Bare index.bare.entries c.new-2.ensures.bare;
        full = listed-none c.args.hash_key Full index.full.entries c.new-2.ensures.full;
      };
    })
