-- A stanza as the server hands it on.
use Rattle.std.specs.Prelude.{ℕ, ◌+◌, List, [], ◌∷◌, ◌++◌, Bool, true, false, not, ◌&&◌, codes, if◌then◌else◌}
use Rattle.stanza_tree.specs.declared.node.Element.{Element}
use Rattle.stanza_tree.specs.declared.node.Attr.{Attr}
use Rattle.stanza_tree.specs.Attributes.{is_named, with_attr, without_attr}
use Rattle.stanza_tree.specs.Spelling.{assigned, needs_prefix, prefixed, unprefixed}

-- RFC 6120, 8.1.2.1: its `from` is the sender's address, whatever the sender wrote. Its `to` goes with the entry, and not in the text.
abbrev pub stamped : List ℕ → List Attr → List Attr
stamped from attrs = with_attr (codes "from") from (without_attr (codes "to") attrs)

abbrev pub sent_by : List ℕ → Element → Element
sent_by from e = record e { attrs = stamped from e.attrs }

abbrev pub from_text : List ℕ → List ℕ
from_text from = codes " from" ++ assigned from

-- how these attributes are spelt in one pass, where the address is written already or is not
abbrev pub stamped_text : Bool → ℕ → List ℕ → List Attr → List ℕ
stamped_text true k from [] = []
stamped_text false k from [] = from_text from
stamped_text written k from (a ∷ more) =
    if is_named (codes "to") a then stamped_text written k from more
    else if needs_prefix a then prefixed k a ++ stamped_text written (k + 1) from more
    else if is_named (codes "from") a && not written then from_text from ++ stamped_text true k from more
    else unprefixed a ++ stamped_text written k from more
