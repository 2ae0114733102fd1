-- A tag is refused at its `>` exactly where its names have a fault in the scope of the open elements round it.
use Rattle.std.proofs.Common.{◌≡◌, ℕ, ◌+◌, inl, inr, List, [], ◌∷◌, ◌++◌, length, refl, sym, Bool, true, false}
use Rattle.std.specs.Prelude.{Some, None}
use Rattle.stream_lex.proofs.Lists.{false-true}
use Rattle.stream_grammar.specs.declared.FrameFault.{FrameFault}
use Rattle.stream_grammar.specs.declared.FrameFault.TheVariants as fault
use Rattle.stream_grammar.specs.declared.namespaces.NameFault.{NameFault}
use Rattle.stream_grammar.specs.declared.namespaces.NameFault.TheVariants as name
use Rattle.stream_grammar.specs.declared.item.Limits.{Limits}
use Rattle.stream_grammar.specs.grammar.Trees.{RawTag}
use Rattle.stream_grammar.specs.grammar.Streams.{Begins}
use Rattle.stream_grammar.specs.machine.Framing.{frame_after, first_frame, is_broken}
use Rattle.stream_grammar.specs.grammar.Tags.{whole_tag}
use Rattle.stream_grammar.specs.grammar.Elements.{fault_of_tag}
use Rattle.stream_grammar.specs.machine.Building.{nothing_built}
use Rattle.stream_grammar.specs.machine.Reading.{Reading, reads, stopped, first_reading, is_stopped, went}
use Rattle.stream_grammar.specs.grammar.Bounds.{rules_of, told_number}
use Rattle.stream_grammar.specs.grammar.Extents.{IsPastLimit}
use Rattle.stream_grammar.specs.grammar.Paths.{Step, scope_of, EndsTag, name_kind, IsNameFault}
use Rattle.stream_grammar.specs.grammar.Parts.{IsLargeEnd, IsByteFault}
use Rattle.stream_grammar.proofs.Whole.{broken-begins}
use Rattle.stream_laws.proofs.Coming.{told_all}
use Rattle.stream_laws.proofs.Handing.{HasRead, went-read}
use Rattle.stream_laws.proofs.Judged.{AreJudged, reading-judged}
use Rattle.stream_laws.proofs.NameFaults.{name-not}
use Rattle.stream_laws.proofs.FirstFaults.{fault_waits, fault_stops}

pub name_refused : (l : Limits) (bytes : List ℕ) (byte : ℕ) (path : List Step) (t : RawTag) (x : NameFault) → is_stopped (went l first_reading bytes) ≡ false
    → (IsPastLimit l bytes byte → ⊥) → Begins (rules_of l) (bytes ++ byte ∷ [])
    → EndsTag (bytes ++ byte ∷ []) path t → fault_of_tag (scope_of path) (whole_tag t) ≡ Some x
    → went l first_reading (bytes ++ byte ∷ []) ≡ stopped (name_kind x) (told_number (length bytes + 1))
name_refused l bytes byte path t x o past begins ends is =
    fault_stops l bytes byte (name_kind x) (o, inr (past, inr (begins, inl (path, t, ends, (x, is, refl)))))

goes-whole : (l : Limits) (bytes : List ℕ) → Begins (rules_of l) bytes → is_broken (frame_after (rules_of l) first_frame bytes) ≡ false
goes-whole l bytes begins = by (is_broken (frame_after (rules_of l) first_frame bytes)) refl
  where
    by : (t : Bool) → is_broken (frame_after (rules_of l) first_frame bytes) ≡ t → t ≡ false
    by true e = absurd (broken-begins (rules_of l) bytes e begins)
    by false e = refl

named-so : (l : Limits) (bytes : List ℕ) (byte : ℕ) (path : List Step) (t : RawTag) (g : FrameFault) (s : Reading)
    → HasRead (rules_of l) first_frame nothing_built bytes s → is_stopped s ≡ false → AreJudged nothing_built (told_all (rules_of l) first_frame bytes)
    → Begins (rules_of l) (bytes ++ byte ∷ []) → EndsTag (bytes ++ byte ∷ []) path t → fault_of_tag (scope_of path) (whole_tag t) ≡ None
    → IsNameFault (bytes ++ byte ∷ []) g → ⊥
named-so l bytes byte path t g (stopped f k) h o j begins ends none name = false-true (sym o)
named-so l bytes byte path t g (reads f b n k) (p, q) o j begins ends none name =
    name-not (rules_of l) bytes byte f b g path t p (goes-whole l (bytes ++ byte ∷ []) begins) (q, j) ends none name

pub name_kept : (l : Limits) (bytes : List ℕ) (byte : ℕ) (path : List Step) (t : RawTag) → is_stopped (went l first_reading bytes) ≡ false
    → (IsPastLimit l bytes byte → ⊥) → Begins (rules_of l) (bytes ++ byte ∷ [])
    → EndsTag (bytes ++ byte ∷ []) path t → fault_of_tag (scope_of path) (whole_tag t) ≡ None → (IsLargeEnd l (bytes ++ byte ∷ []) → ⊥)
    → is_stopped (went l first_reading (bytes ++ byte ∷ [])) ≡ false
name_kept l bytes byte path t o past begins ends none large = by (went l first_reading (bytes ++ byte ∷ [])) refl
  where
    wrong : (g : FrameFault) → IsByteFault l bytes byte g → ⊥
    wrong g (inl (long, is)) = past long
    wrong g (inr (never, inl (breaks, kind))) = breaks begins
    wrong g (inr (never, inr (goes, inl name))) = named-so l bytes byte path t g (went l first_reading bytes) (went-read bytes l first_frame nothing_built 0 0)
        o (reading-judged l bytes o) begins ends none name
    wrong g (inr (never, inr (goes, inr (end, is)))) = large end

    by : (s : Reading) → went l first_reading (bytes ++ byte ∷ []) ≡ s → is_stopped s ≡ false
    by (reads f b n k) e = refl
    by (stopped g k) e = absurd (wrong g (fault_waits l bytes byte g k o e).0.1)

no-kind : (x : NameFault) → fault.BadEncoding ≡ name_kind x → ⊥
no-kind name.BadPrefix e = let bad : fault.BadEncoding ≡ fault.BadPrefix = e in cc
no-kind name.NotWellFormed e = let bad : fault.BadEncoding ≡ fault.NotWellFormed = e in cc

not-long : fault.BadEncoding ≡ fault.TooLong → ⊥
not-long e = cc

pub encoding_breaks : (l : Limits) (bytes : List ℕ) (byte : ℕ) (k : ℕ) → is_stopped (went l first_reading bytes) ≡ false
    → went l first_reading (bytes ++ byte ∷ []) ≡ stopped fault.BadEncoding k → Begins (rules_of l) (bytes ++ byte ∷ []) → ⊥
encoding_breaks l bytes byte k o e begins = by (fault_waits l bytes byte fault.BadEncoding k o e).0.1
  where
    by : IsByteFault l bytes byte fault.BadEncoding → ⊥
    by (inl (long, is)) = not-long is
    by (inr (never, inl (breaks, kind))) = breaks begins
    by (inr (never, inr (goes, inl (path, t, ends, (x, is, kind))))) = no-kind x kind
    by (inr (never, inr (goes, inr (end, is)))) = not-long is
