-- What a poller's rings change of its counts, and what its places keep.
use Rattle.std.proofs.Common.{◌≡◌, ◌≤◌, ◌<◌, ℕ, List, arith, get_or, length, refl, sym, subst, ap, ◌∙◌}
use Rattle.std.specs.Prelude.{All, true, false, Option, Some, None}
use Rattle.outside.specs.Doors.{reached}
use Rattle.outside.specs.Tapes.{Mark}
use Rattle.conn_serve.specs.Shifts.{IsWithin}
use Rattle.many_links.specs.declared.many.ManyEnded.{ManyEnded}
use Rattle.many_links.specs.declared.many.ManyEnded.TheVariants.{Shut, PollFault}
use Rattle.many_links.specs.declared.place.Line.{Line}
use Rattle.many_links.specs.Visits.{Ends, is_taken, open_of}

pub within_same : (quota links quota' links' : ℕ) → quota' ≡ quota → links' ≡ links → IsWithin quota links → IsWithin quota' links'
within_same quota links quota' links' same counted within =
    subst (λ (q : ℕ). IsWithin q links') (sym same) (subst (λ (n : ℕ). IsWithin quota n) (sym counted) within)

pub reached_same : (quota links quota' links' : ℕ) → quota' ≡ quota → links' ≡ links → reached quota links ≡ true → reached quota' links' ≡ true
reached_same quota links quota' links' same counted full =
    ap (λ (q : ℕ). reached q links') same ∙ ap (λ (n : ℕ). reached quota n) counted ∙ full

-- what is so at the end is so of the whole
pub ends_on : (e : ManyEnded) (quota links quota' links' a b c d : ℕ) → a ≤ b → quota' ≡ quota → links' ≡ links → d ≡ c
    → Ends e (reached quota links) b c → Ends e (reached quota' links') a d
ends_on Shut quota links quota' links' a b c d less same counted faults full = reached_same quota links quota' links' same counted full
ends_on PollFault quota links quota' links' a b c d less same counted faults rose = omega (arith, less, faults, rose)

pub least : (a : ℕ) → a ≤ a
least a = omega arith

pub most : (a b c : ℕ) → a ≤ b → b ≤ c → a ≤ c
most a b c p q = omega (arith, p, q)

pub kept_same : (a b c : ℕ) → a ≤ b → c ≡ b → a ≤ c
kept_same a b c less same = omega (arith, less, same)

-- a place that is not taken has no link
pub no_line : (L : Type 0) (tape : L → Option (List Mark)) (faults ends : L → ℕ) (line : Option (Line L))
    → is_taken (open_of L tape faults ends line) ≡ false → line ≡ None
no_line L tape faults ends None e = refl
no_line L tape faults ends (Some line) e = absurd (let f : true ≡ false = e in cc)

-- what holds of all holds of one
pub all_at : {X : Type 0} (P : X → Type 0) (items : List X) (n : ℕ) (p : X) → n < length items → p ≡ get_or items n p → All P items → P p
all_at P items n p less value all = subst P (sym value) (all n p less)
