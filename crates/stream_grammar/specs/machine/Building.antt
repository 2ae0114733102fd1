-- Elements as they are made while the tokens of a stream come.
use Rattle.std.specs.Prelude.{ℕ, List, [], ◌∷◌, ◌++◌, true, false, length, Option, Some, None, ◌==◌, if◌then◌else◌, encode_utf8}
use Rattle.stream_lex.specs.declared.Token.{Token}
use Rattle.stream_lex.specs.declared.Token.TheVariants as token
use Rattle.stanza_tree.specs.declared.node.Attr.{Attr}
use Rattle.stanza_tree.specs.declared.node.Element.{Element}
use Rattle.stanza_tree.specs.declared.node.Name.{Name}
use Rattle.stanza_tree.specs.declared.node.Node.{Node}
use Rattle.stanza_tree.specs.declared.node.Node.TheOpen.{Child}
use Rattle.stanza_tree.specs.declared.node.Node.TheViews.{roll-Node}
use Rattle.stream_grammar.specs.declared.namespaces.Binding.{Binding}
use Rattle.stream_grammar.specs.declared.FrameFault.{FrameFault}
use Rattle.stream_grammar.specs.declared.FrameFault.TheVariants as frame
use Rattle.stream_grammar.specs.declared.namespaces.NameFault.{NameFault}
use Rattle.stream_grammar.specs.declared.namespaces.NameFault.TheVariants as name
use Rattle.stream_grammar.specs.declared.item.Item.{Item}
use Rattle.stream_grammar.specs.declared.item.Item.TheVariants as item
use Rattle.stream_grammar.specs.grammar.Namespaces.{space_of}
use Rattle.stream_grammar.specs.grammar.Resolving.{or_none, name_on, attrs_on}
use Rattle.stream_grammar.specs.grammar.Tags.{Gathered}
use Rattle.stream_grammar.specs.machine.Gathering.{nothing_gathered, gather}
use Rattle.stream_grammar.specs.grammar.Elements.{inside_of, element_with, with_words, fault_of_tag}

-- an element that is open, with the children that came before its last words
pub record Opened : Type 0 where
  pub name : Name
  pub attrs : List Attr
  pub children : List Node

pub record Building : Type 0 where
  pub tag : Gathered  -- the tag that was begun last
  pub layers : List (List Binding)  -- the bindings of each open element, the stream's first
  pub opened : List Opened  -- the open elements below the stream's, the innermost first
  pub words : List ℕ  -- the words since the last tag, in an open element
  pub item : Option Item  -- the header, top element or close tag that came to its end

abbrev pub nothing_built : Building
nothing_built = record { tag = nothing_gathered; layers = []; opened = []; words = []; item = None }

-- an element with a child more, after words
abbrev pub with_child : List ℕ → Element → Opened → Opened
with_child words e x = record x { children = x.children ++ with_words words (roll-Node (Child e) ∷ []) }

-- and with the words alone
abbrev pub with_last : List ℕ → Opened → Opened
with_last words x = record x { children = x.children ++ with_words words [] }

abbrev pub closed : Opened → Element
closed x = record { name = x.name; attrs = x.attrs; children = x.children }

abbrev pub last_closed : List ℕ → Opened → Element
last_closed words x = closed (with_last words x)

abbrev pub but_last : {X : Type 0} → List X → List X
but_last [] = []
but_last (x ∷ []) = []
but_last (x ∷ y ∷ xs) = x ∷ but_last (y ∷ xs)

-- words go into the innermost element
abbrev pub settled_words : List ℕ → List Opened → List Opened
settled_words words [] = []
settled_words words (x ∷ xs) = with_last words x ∷ xs

-- the start tag of the stream: its header
abbrev pub headed : List (List Binding) → Building → Building
headed layers b = record b { tag = nothing_gathered; layers = layers; item = Some (item.Header (element_with layers b.tag []) (or_none (space_of layers []))) }

-- another start tag
abbrev pub begun : List (List Binding) → Building → Building
begun layers b =
    record b {
      tag = nothing_gathered;
      layers = layers;
      opened = record { name = name_on layers b.tag.name; attrs = attrs_on layers b.tag.attributes; children = [] } ∷ settled_words b.words b.opened;
      words = [];
    }

-- an element came to its end, and these are open round it
abbrev pub ended_in : Element → List ℕ → List Opened → Building → Building
ended_in e words [] b = record b { item = Some (item.Top e); opened = []; words = [] }
ended_in e words (x ∷ xs) b = record b { opened = with_child words e x ∷ xs; words = [] }

-- an end tag
abbrev pub closed_in : List Opened → Building → Building
closed_in [] b = record b { item = Some item.CloseTag; words = [] }
closed_in (x ∷ xs) b = ended_in (last_closed b.words x) [] xs (record b { layers = but_last b.layers })

abbrev pub worded_in : List Opened → ℕ → Building → Building
worded_in [] c b = b
worded_in (x ∷ xs) c b = record b { words = b.words ++ encode_utf8 c }

-- what a token does; at its end nothing of a tag is left but what became of it
abbrev pub build : Building → Token → Building
build b (token.TagEnds false) = if length b.layers == 0 then headed (inside_of b.layers b.tag) b else begun (inside_of b.layers b.tag) b
build b (token.TagEnds true) = ended_in (element_with (inside_of b.layers b.tag) b.tag []) b.words b.opened (record b { tag = nothing_gathered })
build b token.CloseEnds = closed_in b.opened (record b { tag = nothing_gathered })
build b (token.Word c) = worded_in b.opened c b
build b t = record b { tag = gather b.tag t }

abbrev pub build_all : Building → List Token → Building
build_all b [] = b
build_all b (t ∷ ts) = build_all (build b t) ts

-- A tag is judged as it ends, by its names.

abbrev pub named_fault : Option NameFault → Option FrameFault
named_fault (Some name.BadPrefix) = Some frame.BadPrefix
named_fault (Some name.NotWellFormed) = Some frame.NotWellFormed
named_fault None = None

abbrev pub tag_judged : Building → Token → Option FrameFault
tag_judged b (token.TagEnds empty) = named_fault (fault_of_tag b.layers b.tag)
tag_judged b t = None

abbrev pub told_judged : Building → List Token → Option FrameFault
told_judged b (t ∷ []) = tag_judged b t
told_judged b ts = None
