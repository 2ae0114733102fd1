-- A link that was served, and given back.
use Rattle.std.proofs.Common.{◌≡◌, ℕ, ◌<◌, ◌&&◌, List, Bool, false, not, nat_eq, nat_le, arith, sym, ap, subst, ne_eqb, leb-false, ◌∙◌}
use Rattle.std.specs.Prelude.{Option}
use Rattle.outside.specs.Doors.{TakesBack, Untold, reached}
use Rattle.outside.specs.Plans.{raised}
use Rattle.outside.specs.Tapes.{Mark}
use Rattle.house_model.specs.Histories.{Turn}
use Rattle.conn_asks.specs.declared.ended.Ended.{Ended}
use Rattle.conn_asks.specs.declared.ended.Ended.TheVariants as ended
use Rattle.conn_flow.specs.Duties.{Site}
use Rattle.conn_serve.specs.Connections.{Caused, Rises, Went, counts_of, marked_at, told}
use Rattle.conn_serve.specs.Shifts.{IsWithin, Visited, shift}

pub visited : (o : Site) (x : Ended) (blank tape : Option (List Mark)) (tapes tapes1 tapes2 : Option (List (List Mark))) (turns turns' : List Turn)
    (moments moments' : Option (List ℕ)) (drawn drawn' : Option (List (List ℕ))) (links links1 links2 f f' e e' d d' : ℕ) (marked marked' : Bool)
    → Untold Mark blank → Went o (told blank turns moments drawn) (told tape turns' moments' drawn') x → tapes1 ≡ tapes → TakesBack tapes1 tape tapes2
    → links1 ≡ raised links → links2 ≡ links1 → marked' ≡ marked_at x marked → Caused x (counts_of f e d) (counts_of f' e' d')
    → (y : Ended) × Visited o (shift tapes turns moments drawn links d marked) y (shift tapes2 turns' moments' drawn' links2 d' marked')
visited o x blank tape tapes tapes1 tapes2 turns turns' moments moments' drawn drawn' links links1 links2 f f' e e' d d' marked marked' unmarked went same back
    counted kept mark cause = (
      x,
      record {
        blank = blank;
        tape = tape;
        unmarked = unmarked;
        went = went;
        back = subst (λ (t : Option (List (List Mark))). TakesBack t tape tapes2) same back;
        counted = kept ∙ counted;
        dice_kept = cause.dice;
        dice_failed = λ (is : x ≡ ended.DiceFault). subst (λ (y : Ended). Rises y (counts_of f e d) (counts_of f' e' d')) is cause.rose;
        mark = mark;
      },
    )

-- a link came, so the quota was not reached
pub within_more : (quota links quota' links' : ℕ) → quota' ≡ quota → links' ≡ raised links → reached quota links ≡ false → IsWithin quota' links'
within_more quota links quota' links' same counted more = λ some.
    let open_ended : nat_eq quota 0 ≡ false = ne_eqb quota 0 (λ none. some (same ∙ none)) in
    let fewer : links < quota = leb-false quota links (ap (λ t. not t && nat_le quota links) (sym open_ended) ∙ more) in
    omega (arith, counted, same, fewer)
