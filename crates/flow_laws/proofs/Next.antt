-- The item that is handled next is of the grammar.
use Rattle.std.proofs.Common.{◌≡◌, ℕ, List, [], ◌∷◌, ◌++◌, refl, ◌∙◌, Option, Some, None, append_assoc}
use Rattle.stream_grammar.specs.declared.item.Item.{Item}
use Rattle.stream_laws.proofs.OneFault.{item_or_fault}
use Rattle.stream_frames.specs.Limits.{limits}
use Rattle.conn_flow.specs.Streams.{Cut, cut, here_or, item_at}
use Rattle.flow_laws.specs.Items.{IsOfGrammar}

here_so : (x : Option Item) (stream : List ℕ) (b : ℕ) (rest : List ℕ) (later : Cut) (i : Item) → item_at (stream ++ b ∷ []) ≡ x
    → (later.item ≡ Some i → IsOfGrammar later.stream i) → (here_or x (stream ++ b ∷ []) rest later).item ≡ Some i
    → IsOfGrammar (here_or x (stream ++ b ∷ []) rest later).stream i
here_so (Some y) stream b rest later i at next e = item_or_fault limits stream b i (at ∙ e)
here_so None stream b rest later i at next e = next e

pub next_item : (bytes stream : List ℕ) (i : Item) → (cut stream bytes).item ≡ Some i → IsOfGrammar (cut stream bytes).stream i
next_item [] stream i h = absurd (cc)
next_item (b ∷ bs) stream i h =
    here_so (item_at (stream ++ b ∷ [])) stream b bs (cut (stream ++ b ∷ []) bs) i refl (next_item bs (stream ++ b ∷ []) i) h

here_all : (x : Option Item) (stream : List ℕ) (b : ℕ) (rest : List ℕ) (later : Cut) → later.stream ++ later.rest ≡ (stream ++ b ∷ []) ++ rest
    → (here_or x (stream ++ b ∷ []) rest later).stream ++ (here_or x (stream ++ b ∷ []) rest later).rest ≡ stream ++ b ∷ rest
here_all (Some y) stream b rest later next = append_assoc stream (b ∷ []) rest
here_all None stream b rest later next = next ∙ append_assoc stream (b ∷ []) rest

pub all_bytes : (bytes stream : List ℕ) → (cut stream bytes).stream ++ (cut stream bytes).rest ≡ stream ++ bytes
all_bytes [] stream = refl
all_bytes (b ∷ bs) stream = here_all (item_at (stream ++ b ∷ [])) stream b bs (cut (stream ++ b ∷ []) bs) (all_bytes bs (stream ++ b ∷ []))
