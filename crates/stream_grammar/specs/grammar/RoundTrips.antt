-- A text that was written, and is read back among the top elements of a stream.
use Rattle.std.specs.Prelude.{◌≡◌, ℕ, ◌^◌, ◌<◌, ◌≤◌, List, [], ◌∷◌, ◌++◌, length, flat_map, codes, Contains}
use Rattle.stanza_tree.specs.declared.node.Element.{Element}
use Rattle.stanza_tree.specs.Spelling.{text, client_space}
use Rattle.stream_grammar.specs.declared.rules.Rules.{Rules}
use Rattle.stream_grammar.specs.grammar.Trees.{RawTag, Content, Stream}
use Rattle.stream_grammar.specs.grammar.Streams.{Spells}
use Rattle.stream_grammar.specs.grammar.Items.{HasCome}
use Rattle.stream_grammar.specs.grammar.Elements.{tops_of, IsNamed}
use Rattle.stream_grammar.specs.grammar.Proper.{IsProper}
use Rattle.stream_grammar.specs.grammar.Widths.{depth_of, width_under}

-- XML 1.0 [42] ETag, of the stream
abbrev pub end_tag_of : RawTag → List ℕ
end_tag_of root = codes "</" ++ ((root.name.0 ∷ root.name.1) ++ codes ">")

-- The bytes are the start of a stream of this header, and its top elements are those of f and then these.
abbrev pub HasMore : Rules → List ℕ → RawTag → Content → List Element → Type 0
HasMore r bytes root f es = (g : Content) × HasCome r bytes root g × IsNamed root g × (tops_of root g ≡ tops_of root f ++ es)

-- The bytes are a stream of this header, and its top elements are those of f and then these.
abbrev pub IsReadBack : Rules → List ℕ → RawTag → Content → List Element → Type 0
IsReadBack r bytes root f es = (s : Stream) × Spells r bytes s × (s.root ≡ root) × IsNamed s.root s.content × (tops_of s.root s.content ≡ tops_of root f ++ es)

-- a proper element with a text that is no longer than memory, and has the levels and the attributes that the rules allow
abbrev pub IsWritable : Rules → Element → Type 0
IsWritable r e = IsProper e × (length (text e) < 2 ^ 64) × (depth_of e ≤ r.depth) × (width_under client_space e ≤ r.attributes)

-- their texts, one after another
abbrev pub texts_of : List Element → List ℕ
texts_of es = flat_map text es

-- RFC 6120, 4.8: a header with no more than its namespaces
abbrev pub bare_header : List ℕ
bare_header = codes "<stream:stream xmlns='jabber:client' xmlns:stream='http://etherx.jabber.org/streams'>"

abbrev pub bare_root : RawTag
bare_root = record {
  name = (115, codes "tream:stream");
  attributes = record { name = (120, codes "mlns"); value = codes "jabber:client" }
      ∷ record { name = (120, codes "mlns:stream"); value = codes "http://etherx.jabber.org/streams" } ∷ [];
}

-- Some stream has it among its top elements.
abbrev pub IsTop : Element → Type 0
IsTop e = (r : Rules) × (bytes : List ℕ) × (s : Stream) × Spells r bytes s × IsNamed s.root s.content × Contains (tops_of s.root s.content) e
