-- What framers print are the items of the grammar.
use Rattle.std.proofs.Common.{◌≡◌, ℕ, List, [], ◌∷◌, ◌++◌, refl, sym, ap, ◌∙◌, subst, Bool, true, false, ◌==◌}
use Rattle.std.specs.Prelude.{if◌then◌else◌}
use Rattle.stream_grammar.specs.declared.item.Item.{Item}
use Rattle.stream_grammar.specs.machine.Reading.{Reading, reads, stopped, first_reading, reading_next, handed, waiting, went}
use Rattle.stream_laws.specs.ItemLists.{AreNext, brought, items_from}
use Rattle.stream_laws.proofs.Handing.{went-more}
use Rattle.stream_laws.proofs.OneItem.{next_brought, one_next}
use Rattle.replay_script.specs.Deeds.{Deed, Turned, Fed, Renewed, Streams, no_streams, streams_next, IsPrint, ArePrints, print_items}
use Rattle.replay_script.specs.Deeds.{Framers, framers_next, item_in, items_of, print_deed, prints_from, prints}
use Rattle.stream_frames.specs.Limits.{limits}

-- The items of bytes, where what waited before them was handed out.

first-told : (s t : Reading) → item_in (handed s) t ≡ brought s (waiting t)
first-told (reads f b n k) t = refl
first-told (stopped f k) t = refl

told-same : (bs : List ℕ) (s : Reading) → items_of (handed s) bs ≡ items_from limits s bs
told-same [] s = refl
told-same (b ∷ bs) s =
    ap (λ (x : List Item). x ++ items_of (handed (reading_next limits (handed s) b)) bs) (first-told s (reading_next limits (handed s) b))
    ∙ ap (λ (x : List Item). brought s (waiting (reading_next limits (handed s) b)) ++ x) (told-same bs (reading_next limits (handed s) b))

next-told : (before bytes : List ℕ) → AreNext limits before bytes (items_of (handed (went limits first_reading before)) bytes)
next-told before bytes = subst (AreNext limits before bytes) (sym (told-same bytes (went limits first_reading before))) (next_brought limits before bytes)

-- The framers of places that were fed these bytes.

abbrev standing : Streams → Framers
standing fed w = handed (went limits first_reading (fed w))

handed-went : (s : Reading) (bs : List ℕ) → handed (went limits (handed s) bs) ≡ handed (went limits s bs)
handed-went (stopped f k) bs = refl
handed-went (reads f b n k) [] = refl
handed-went (reads f b n k) (c ∷ cs) = refl

stands-more : (before bytes : List ℕ)
    → handed (went limits first_reading (before ++ bytes)) ≡ handed (went limits (handed (went limits first_reading before)) bytes)
stands-more before bytes = ap handed (went-more limits first_reading before bytes) ∙ sym (handed-went (went limits first_reading before) bytes)

stands-next : (fed : Streams) (d : Deed) → standing (streams_next fed d) ≡ framers_next (standing fed) d
stands-next fed (Turned x) = refl
stands-next fed (Fed w bytes) = λ i v. by v (v == w) i
  where
    by : (v : ℕ) (t : Bool) → handed (went limits first_reading (if t then fed w ++ bytes else fed v))
        ≡ (if t then handed (went limits (standing fed w) bytes) else standing fed v)
    by v true = stands-more (fed w) bytes
    by v false = refl
stands-next fed (Renewed w) = λ i v. by v (v == w) i
  where
    by : (v : ℕ) (t : Bool) → handed (went limits first_reading (if t then [] else fed v)) ≡ (if t then first_reading else standing fed v)
    by v true = refl
    by v false = refl

-- What they print.

deed-print : (fed : Streams) (d : Deed) → IsPrint fed d (print_deed (standing fed) d)
deed-print fed (Turned x) = refl
deed-print fed (Fed w bytes) = (items_of (standing fed w) bytes, next-told (fed w) bytes, refl)
deed-print fed (Renewed w) = refl

prints-by : (ds : List Deed) (fed : Streams) → ArePrints fed ds (prints_from (standing fed) ds)
prints-by [] fed = refl
prints-by (d ∷ ds) fed = (
  print_deed (standing fed) d,
  prints_from (framers_next (standing fed) d) ds,
  deed-print fed d,
  subst (λ (fs : Framers). ArePrints (streams_next fed d) ds (prints_from fs ds)) (stands-next fed d) (prints-by ds (streams_next fed d)),
  refl,
)

pub prints_are : (ds : List Deed) → ArePrints no_streams ds (prints ds)
prints_are ds = prints-by ds no_streams

-- There is one text only.

one-deed : (d : Deed) (fed : Streams) (xs ys : List ℕ) → IsPrint fed d xs → IsPrint fed d ys → xs ≡ ys
one-deed (Turned x) fed xs ys p q = p ∙ sym q
one-deed (Renewed w) fed xs ys p q = p ∙ sym q
one-deed (Fed w bytes) fed xs ys (is, next, e) (js, too, f) = e ∙ (ap print_items (one_next limits (fed w) bytes is js next too) ∙ sym f)

one-text : (ds : List Deed) (fed : Streams) (xs ys : List ℕ) → ArePrints fed ds xs → ArePrints fed ds ys → xs ≡ ys
one-text [] fed xs ys p q = p ∙ sym q
one-text (d ∷ ds) fed xs ys (x, more, p, ps, e) (y, rest, q, qs, f) =
    e
    ∙ (ap (λ (z : List ℕ). z ++ more) (one-deed d fed x y p q)
    ∙ (ap (λ (z : List ℕ). y ++ z) (one-text ds (streams_next fed d) more rest ps qs) ∙ sym f))

pub only_prints : (ds : List Deed) (out : List ℕ) → ArePrints no_streams ds out → out ≡ prints ds
only_prints ds out are = one-text ds no_streams out (prints ds) are (prints_are ds)
