-- Where the header and the top elements of a stream end.
use Rattle.std.specs.Prelude.{◌≡◌, ℕ, List, ◌++◌, Bool, true, false}
use Rattle.stream_lex.specs.declared.Token.{Token}
use Rattle.stream_lex.specs.grammar.Reading.{Reads}
use Rattle.stream_grammar.specs.declared.rules.Rules.{Rules}
use Rattle.stream_grammar.specs.grammar.Trees.{RawTag, Content, nothing, word, element, hollow, tag_tokens, content_tokens, declaration_tokens, KeepsRoot}
use Rattle.stream_grammar.specs.grammar.Streams.{IsShortest}

-- a declaration or none, the start tag of a stream, and what is in it so far
abbrev pub head_tokens : Bool → RawTag → Content → List Token
head_tokens declared root f = declaration_tokens declared ++ (tag_tokens root false ++ content_tokens f)

-- the bytes are the start of a stream, up to the last that tells something
abbrev pub HasCome : Rules → List ℕ → RawTag → Content → Type 0
HasCome r bytes root f = (declared : Bool) × Reads bytes (head_tokens declared root f) × IsShortest bytes (head_tokens declared root f) × KeepsRoot r root f

-- the last thing in the content is an element, or there is nothing and the flag says so
abbrev pub ends_so : Bool → Content → Bool
ends_so t nothing = t
ends_so t (word c f) = ends_so false f
ends_so t (element n g f) = ends_so true f
ends_so t (hollow n f) = ends_so true f

-- the last byte is the `>` of the header
abbrev pub EndsHeader : Rules → List ℕ → Type 0
EndsHeader r bytes = (root : RawTag) × HasCome r bytes root nothing

-- the last byte is the `>` of a top element
abbrev pub EndsTop : Rules → List ℕ → Type 0
EndsTop r bytes = (root : RawTag) × (f : Content) × HasCome r bytes root f × (ends_so false f ≡ true)
