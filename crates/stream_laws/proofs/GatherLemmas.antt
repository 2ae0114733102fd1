-- The tokens of a tag give its name and its attributes.
use Rattle.std.proofs.Common.{◌≡◌, ℕ, List, [], ◌∷◌, ◌++◌, map, refl, sym, ap, ◌∙◌, append_assoc, append-nil, Bool, encode_utf8, encode_utf8_all}
use Rattle.stream_lex.specs.declared.Token.{Token}
use Rattle.stream_lex.specs.declared.Token.TheVariants as token
use Rattle.stream_grammar.specs.declared.namespaces.Written.{Written}
use Rattle.stream_grammar.specs.grammar.Trees.{RawAttribute, RawTag, attribute_tokens, attributes_tokens, tag_tokens}
use Rattle.stream_grammar.specs.grammar.Tags.{Gathered, written, whole_tag}
use Rattle.stream_grammar.specs.machine.Gathering.{gather, gather_all}

pub more-gathered : (g : Gathered) (ts us : List Token) → gather_all g (ts ++ us) ≡ gather_all (gather_all g ts) us
more-gathered g [] us = refl
more-gathered g (t ∷ ts) us = more-gathered (gather g t) ts us

name-gathered : (g : Gathered) (bs : List ℕ) → gather_all g (map token.NameByte bs) ≡ record g { name = g.name ++ bs }
name-gathered g [] = ap (λ (l : List ℕ). record g { name = l }) (sym (append-nil g.name))
name-gathered g (b ∷ bs) = name-gathered (record g { name = g.name ++ b ∷ [] }) bs
    ∙ ap (λ (l : List ℕ). record g { name = l }) (append_assoc g.name (b ∷ []) bs)

attribute-gathered : (g : Gathered) (bs : List ℕ) → gather_all g (map token.AttrByte bs) ≡ record g { attribute = g.attribute ++ bs }
attribute-gathered g [] = ap (λ (l : List ℕ). record g { attribute = l }) (sym (append-nil g.attribute))
attribute-gathered g (b ∷ bs) = attribute-gathered (record g { attribute = g.attribute ++ b ∷ [] }) bs
    ∙ ap (λ (l : List ℕ). record g { attribute = l }) (append_assoc g.attribute (b ∷ []) bs)

value-gathered : (g : Gathered) (cs : List ℕ) → gather_all g (map token.Value cs) ≡ record g { value = g.value ++ encode_utf8_all cs }
value-gathered g [] = ap (λ (l : List ℕ). record g { value = l }) (sym (append-nil g.value))
value-gathered g (c ∷ cs) =
    value-gathered (record g { value = g.value ++ encode_utf8 c }) cs
    ∙ ap (λ (l : List ℕ). record g { value = l }) (append_assoc g.value (encode_utf8 c) (encode_utf8_all cs))

-- an attribute
one-gathered : (name : List ℕ) (before : List Written) (a : RawAttribute)
    → gather_all (record { name = name; attributes = before; attribute = []; value = [] }) (attribute_tokens a)
    ≡ record { name = name; attributes = before ++ record { name = a.name.0 ∷ a.name.1; value = encode_utf8_all a.value } ∷ []; attribute = []; value = [] }
one-gathered name before a =
    let g0 : Gathered = record { name = name; attributes = before; attribute = a.name.0 ∷ []; value = [] } in
    let g1 : Gathered = record { name = name; attributes = before; attribute = a.name.0 ∷ a.name.1; value = [] } in
    let rest : List Token = map token.Value a.value ++ token.ValueEnds ∷ [] in
    more-gathered g0 (map token.AttrByte a.name.1) (token.ValueOpens ∷ rest)
    ∙ (ap (λ (g : Gathered). gather_all g (token.ValueOpens ∷ rest)) (attribute-gathered g0 a.name.1)
    ∙ (more-gathered g1 (map token.Value a.value) (token.ValueEnds ∷ [])
    ∙ ap (λ (g : Gathered). gather_all g (token.ValueEnds ∷ [])) (value-gathered g1 a.value)))

all-gathered : (name : List ℕ) (before : List Written) (xs : List RawAttribute)
    → gather_all (record { name = name; attributes = before; attribute = []; value = [] }) (attributes_tokens xs)
    ≡ record { name = name; attributes = before ++ written xs; attribute = []; value = [] }
all-gathered name before [] = ap (λ (l : List Written). record { name = name; attributes = l; attribute = []; value = [] }) (sym (append-nil before))
all-gathered name before (a ∷ more) =
    let w : Written = record { name = a.name.0 ∷ a.name.1; value = encode_utf8_all a.value } in
    more-gathered (record { name = name; attributes = before; attribute = []; value = [] }) (attribute_tokens a) (attributes_tokens more)
    ∙ (ap (λ (g : Gathered). gather_all g (attributes_tokens more)) (one-gathered name before a)
    ∙ (all-gathered name (before ++ w ∷ []) more
    ∙ ap (λ (l : List Written). record { name = name; attributes = l; attribute = []; value = [] }) (append_assoc before (w ∷ []) (written more))))

pub tag-gathered : (g : Gathered) (t : RawTag) (empty : Bool) → gather_all g (tag_tokens t empty) ≡ whole_tag t
tag-gathered g t empty =
    let g0 : Gathered = record { name = t.name.0 ∷ []; attributes = []; attribute = []; value = [] } in
    let g1 : Gathered = record { name = t.name.0 ∷ t.name.1; attributes = []; attribute = []; value = [] } in
    more-gathered g0 (map token.NameByte t.name.1) (attributes_tokens t.attributes ++ token.TagEnds empty ∷ [])
    ∙ (ap (λ (g : Gathered). gather_all g (attributes_tokens t.attributes ++ token.TagEnds empty ∷ [])) (name-gathered g0 t.name.1)
    ∙ (more-gathered g1 (attributes_tokens t.attributes) (token.TagEnds empty ∷ [])
    ∙ ap (λ (g : Gathered). gather_all g (token.TagEnds empty ∷ [])) (all-gathered (t.name.0 ∷ t.name.1) [] t.attributes)))
