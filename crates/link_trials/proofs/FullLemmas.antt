-- Links of which nothing was told, one after another.
use Rattle.std.proofs.Common.{◌≡◌, List, [], ◌∷◌, ◌++◌, Some, refl, sym, subst}
use Rattle.outside.specs.Doors.{Untold, Unmarked}
use Rattle.outside.specs.Links.{LinkState}
use Rattle.outside.specs.Tapes.{Mark}

pub one_more : (ls : List LinkState) (l : LinkState) → Unmarked ls → l.tape.told ≡ Some [] → Unmarked (ls ++ l ∷ [])
one_more [] l all untold = (subst (Untold Mark) (sym untold) refl, tt)
one_more (x ∷ ls) l all untold = (all.0, one_more ls l all.1 untold)
