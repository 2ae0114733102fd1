-- The name and the attributes of a tag, from its tokens.
use Rattle.std.specs.Prelude.{List, [], ◌∷◌, ◌++◌, encode_utf8}
use Rattle.stream_lex.specs.declared.Token.{Token}
use Rattle.stream_lex.specs.declared.Token.TheVariants as token
use Rattle.stream_grammar.specs.grammar.Tags.{Gathered}

abbrev pub nothing_gathered : Gathered
nothing_gathered = record { name = []; attributes = []; attribute = []; value = [] }

abbrev pub gather : Gathered → Token → Gathered
gather g (token.TagOpens b) = record { name = b ∷ []; attributes = []; attribute = []; value = [] }
gather g (token.NameByte b) = record g { name = g.name ++ b ∷ [] }
gather g (token.AttrOpens b) = record g { attribute = b ∷ []; value = [] }
gather g (token.AttrByte b) = record g { attribute = g.attribute ++ b ∷ [] }
gather g (token.Value c) = record g { value = g.value ++ encode_utf8 c }
gather g token.ValueEnds = record {
  name = g.name;
  attributes = g.attributes ++ record { name = g.attribute; value = g.value }
      ∷ [];
  attribute = [];
  value = [];
}
gather g t = g

abbrev pub gather_all : Gathered → List Token → Gathered
gather_all g [] = g
gather_all g (t ∷ ts) = gather_all (gather g t) ts
