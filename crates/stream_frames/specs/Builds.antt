-- What a builder stands for, and what it is ready for.
use Rattle.std.specs.Prelude.{◌≡◌, ℕ, ◌+◌, ◌*◌, ◌<◌, ◌≤◌, List, [], ◌∷◌, ◌++◌, map, reverse, length, true, Option, Some}
use Rattle.std.specs.Prelude.{None, vec_len, vec_capacity, string_bytes, string_len, string_capacity}
use Rattle.stream_lex.specs.declared.Token.{Token}
use Rattle.stream_frames.specs.declared.built.Beginning.{Beginning}
use Rattle.stream_frames.specs.declared.built.Builder.{Builder}
use Rattle.stream_frames.specs.declared.built.OpenElement.{OpenElement}
use Rattle.stream_frames.specs.declared.built.Parent.{Parent}
use Rattle.stream_frames.specs.declared.built.Ready.{Ready}
use Rattle.stream_frames.specs.declared.built.Ready.TheVariants as ready
use Rattle.stream_grammar.specs.declared.item.Item.TheVariants as item
use Rattle.stanza_tree.specs.declared.node.Element.{Element}
use Rattle.stream_grammar.specs.declared.namespaces.Binding.{Binding}
use Rattle.stream_frames.specs.declared.tags.Resolved.{Resolved}
use Rattle.stream_grammar.specs.machine.Texts.{IsTextTag}
use Rattle.stream_frames.specs.Filled.{element_in}
use Rattle.stream_grammar.specs.grammar.Tags.{Gathered}
use Rattle.stream_grammar.specs.machine.Gathering.{nothing_gathered, gather}
use Rattle.stream_grammar.specs.machine.Building.{Opened, Building, settled_words, ended_in, closed_in, build_all}
use Rattle.stream_grammar.specs.machine.Telling.{are_words}
use Rattle.stream_lex.specs.declared.Token.TheVariants as token

abbrev pub open_parent : Parent → Opened
open_parent p = record { name = p.name; attrs = p.attrs; children = p.children.items }

abbrev pub open_element : OpenElement → Opened
open_element x = record { name = x.name; attrs = x.attrs; children = x.children.items }

-- the open elements, the innermost first
abbrev pub opened : Option OpenElement → List Parent → List Opened
opened None ps = []
opened (Some x) ps = open_element x ∷ reverse (map open_parent ps)

abbrev pub tag_of : Builder → Gathered
tag_of b = record { name = b.name.items; attributes = b.attributes.items; attribute = b.attribute.items; value = string_bytes b.value }

abbrev pub building : Builder → Building
building b = record { tag = tag_of b; layers = b.layers.items; opened = opened b.innermost b.others.items; words = string_bytes b.words; item = b.item }

-- room for so many more children
abbrev pub HasChildRoom : ℕ → Option OpenElement → Type 0
HasChildRoom n None = Unit {0}
HasChildRoom n (Some x) = vec_len x.children + n ≤ vec_capacity x.children

-- what a tag was found to need fits what the builder has gathered of it
abbrev pub IsOfTag : Builder → Resolved → Type 0
IsOfTag b r =
    (r.room.items ≡ []) × (vec_len r.room + length b.attributes.items ≤ vec_capacity r.room)
    × IsTextTag (tag_of b)

-- and there is the room that the start tag of an element in the stream's takes
abbrev pub IsOfStart : Builder → Beginning → Type 0
IsOfStart b h = (vec_len b.layers < vec_capacity b.layers) × (vec_len b.others < vec_capacity b.others) × HasChildRoom 2 b.innermost × IsOfTag b h.resolved

-- there is the room that it takes
abbrev pub IsReady : Builder → List Token → Ready → Type 0
IsReady b ts (ready.Tag x) = 0 < vec_capacity b.name
IsReady b ts (ready.NameByte x) = vec_len b.name < vec_capacity b.name
IsReady b ts (ready.AttributeByte x) = vec_len b.attribute < vec_capacity b.attribute
IsReady b ts (ready.ValueChar c) = string_len b.value + 4 ≤ string_capacity b.value
IsReady b ts ready.ValueEnd = vec_len b.attributes < vec_capacity b.attributes
IsReady b ts ready.Words = (string_len b.words + 4 * length ts ≤ string_capacity b.words) × (are_words ts ≡ true)
IsReady b ts (ready.Header h) = (vec_len b.layers < vec_capacity b.layers) × IsOfTag b h.value.resolved
IsReady b ts (ready.Begins h) = IsOfStart b h.value
IsReady b ts (ready.Hollow r) = HasChildRoom 2 b.innermost × IsOfTag b r.value
IsReady b ts ready.Closes = HasChildRoom 1 b.innermost
IsReady b ts r = Unit {0}

-- the element of the tag
abbrev pub resolved_in : Resolved → Gathered → Element
resolved_in r g = element_in r.space r.spaces.items g.name g.attributes

-- an element is open, and its bindings count
abbrev pub begun_in : Element → List Binding → Building → Building
begun_in e own b = record b {
  layers = b.layers ++ own ∷ [];
  opened = record { name = e.name; attrs = e.attrs; children = e.children }
      ∷ settled_words b.words b.opened;
  words = [];
}

-- what the end of a start tag does in the stream, and that of an empty-element tag
abbrev pub begun_by : Beginning → Building → Building
begun_by h b = begun_in (resolved_in h.resolved b.tag) h.own (record b { tag = nothing_gathered })

abbrev pub hollow_by : Resolved → Building → Building
hollow_by r b = ended_in (resolved_in r b.tag) b.words b.opened (record b { tag = nothing_gathered })

-- what it does
abbrev pub applied : Ready → List Token → Building → Building
applied ready.Nothing ts b = b
applied (ready.Tag x) ts b = record b { tag = record { name = x ∷ []; attributes = []; attribute = []; value = [] } }
applied (ready.NameByte x) ts b = record b { tag = gather b.tag (token.NameByte x) }
applied (ready.Attribute v) ts b = record b { tag = record { name = b.tag.name; attributes = b.tag.attributes; attribute = v.items; value = [] } }
applied (ready.AttributeByte x) ts b = record b { tag = gather b.tag (token.AttrByte x) }
applied (ready.ValueChar c) ts b = record b { tag = gather b.tag (token.Value c) }
applied ready.ValueEnd ts b = record b { tag = gather b.tag token.ValueEnds }
applied ready.Words ts b = build_all b ts
applied (ready.Header h) ts b = record b {
  tag = nothing_gathered;
  layers = b.layers ++ h.value.own
      ∷ [];
  item = Some (item.Header (resolved_in h.value.resolved b.tag) h.value.default_space);
}
applied (ready.Begins h) ts b = begun_by h.value b
applied (ready.Hollow r) ts b = hollow_by r.value b
applied ready.Closes ts b = closed_in b.opened (record b { tag = nothing_gathered })
