-- The stanza of a `stanza` line.
use Rattle.std.specs.Prelude.{◌≡◌, ℕ, ◌≤◌, ◌==◌, nat_lt, nat_le, Bool, true, not, ◌&&◌, List, [], ◌∷◌, ◌++◌, length}
use Rattle.std.specs.Prelude.{slice_index, take, codes, Option, Some, None, if◌then◌else◌}
use Rattle.stanza_tree.specs.declared.node.Element.{Element}
use Rattle.stanza_model.specs.Stanzas.{stanza_of}
use Rattle.stanza_model.specs.declared.stanza.Stanza.{Stanza}
use Rattle.stream_grammar.specs.grammar.Parts.{IsItem}
use Rattle.stream_grammar.specs.machine.Reading.{Reading, first_reading, reading_after, waiting, handed, taken}
use Rattle.stream_grammar.specs.grammar.Bounds.{rules_of}
use Rattle.stream_grammar.specs.declared.item.Item.{Item}
use Rattle.stream_grammar.specs.declared.item.Item.TheVariants as item
use Rattle.stream_frames.specs.Limits.{limits}
use Rattle.stream_laws.specs.ItemLists.{AreNext}
use Rattle.replay_script.specs.Readings.{on}

-- a reading once bytes were fed to it, up to the first that ends an item or has a fault
abbrev pub fed : Reading → List ℕ → Reading
fed s bytes = reading_after limits s (take (taken limits s bytes) bytes)

-- the header of a stream whose default namespace is jabber:client, and which declares no prefix
unfoldable pub client_header : List ℕ
client_header = codes "<stream xmlns='jabber:client'>"

-- inside that stream, its header having been handed out
abbrev pub in_client_stream : Reading
in_client_stream = handed (fed first_reading client_header)

-- a text begins with a tag: with `<`, and not with `<!`
abbrev pub begins_with_tag : List ℕ → Bool
begins_with_tag xml = nat_lt 1 (length xml) && (slice_index xml 0 == 60) && not (slice_index xml 1 == 33)

abbrev pub top_in : Option Item → Option Element
top_in (Some (item.Top e)) = Some e
top_in (Some (item.Header e space)) = None
top_in (Some item.CloseTag) = None
top_in (Some (item.Broken f k)) = None
top_in None = None

-- the item that a text gives in that stream: it ends with the last byte, and none ended before
abbrev pub item_of : List ℕ → Option Item
item_of xml = if taken limits in_client_stream xml == length xml then waiting (reading_after limits in_client_stream xml) else None

-- In that stream a text is one top element: only this item ends in the text, and it ends with the last byte.
abbrev pub IsOneElement : List ℕ → Element → Type 0
IsOneElement xml e = AreNext limits client_header xml (item.Top e ∷ []) × IsItem (rules_of limits) (client_header ++ xml) (item.Top e)

-- XML: a text of at most 65,536 bytes that begins with a tag and is one top element in that stream
abbrev pub IsStanzaText : List ℕ → Element → Type 0
IsStanzaText xml e = (length xml ≤ 65536) × (begins_with_tag xml ≡ true) × IsOneElement xml e

-- The element that such a text is: `stanza_texts_are_elements_of_the_grammar` shows that it is this one, and none of any other text.
abbrev pub element_of : List ℕ → Option Element
element_of xml = if nat_le (length xml) 65536 && begins_with_tag xml then top_in (item_of xml) else None

-- RFC 6120, 8: the stanza that it is
abbrev pub stanza_in : List ℕ → Option Stanza
stanza_in xml = on (element_of xml) stanza_of
