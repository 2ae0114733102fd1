-- Stages fall into eight sorts, by what of a stream they are in.
use Rattle.std.specs.Prelude.{cond}
use Rattle.stream_lex.specs.declared.stages.Context.{Context}
use Rattle.stream_lex.specs.declared.stages.Context.TheVariants.{Words, Value}
use Rattle.stream_lex.specs.declared.stages.NameOwner.{NameOwner}
use Rattle.stream_lex.specs.declared.stages.NameOwner.TheVariants.{StartTag, EndTag, Attribute}
use Rattle.stream_lex.specs.declared.stages.Literal.{Literal}
use Rattle.stream_lex.specs.declared.stages.Literal.TheVariants as literal
use Rattle.stream_lex.specs.declared.stages.Stage.{Stage}
use Rattle.stream_lex.specs.declared.stages.Stage.TheVariants as stage
use Rattle.stream_lex.specs.declared.stages.State.{State}
use Rattle.stream_lex.specs.machine.Characters.{is_nothing}
use Rattle.stream_lex.specs.machine.Machine.{through}

pub data Sort : Type 0 where
  at_begin : Sort  -- before the first tag, where a declaration may come
  at_prolog : Sort  -- before the first tag
  at_content : Sort
  at_name : Sort  -- in the name of a tag
  at_tag : Sort  -- in a tag
  at_attribute : Sort  -- after the first byte of an attribute's name, up to its value
  at_value : Sort
  at_ending : Sort  -- after the first byte of an end tag's name

abbrev pub text_sort : Context → Sort
text_sort Words = at_content
text_sort (Value q) = at_value

abbrev pub name_sort : NameOwner → Sort
name_sort StartTag = at_name
name_sort EndTag = at_ending
name_sort Attribute = at_attribute

abbrev pub fixed_sort : Literal → Sort
fixed_sort literal.Cdata = at_content
fixed_sort w = at_begin

abbrev pub sort : Stage → Sort
sort (stage.Fixed w at) = fixed_sort w
sort stage.Prolog = at_prolog
sort stage.PrologLess = at_prolog
sort (stage.Text p) = text_sort p
sort (stage.Bracketed b) = at_content
sort stage.Less = at_content
sort stage.Bang = at_content
sort stage.Cdata = at_content
sort (stage.CdataBracketed b) = at_content
sort (stage.Reference p l) = text_sort p
sort (stage.Hash p) = text_sort p
sort (stage.HashX p) = text_sort p
sort (stage.Number p base v) = text_sort p
sort stage.EndTagMark = at_content
sort (stage.Name r h) = name_sort r
sort (stage.Colon r) = name_sort r
sort stage.InTag = at_tag
sort stage.ValueEnded = at_tag
sort stage.EmptyTagMark = at_tag
sort stage.AttrNamed = at_attribute
sort stage.ValueAwaited = at_attribute
sort stage.EndTagNamed = at_ending
sort s = at_begin

-- within a character the sort is that of the stage after it
abbrev pub sort_of : State → Sort
sort_of st = cond (is_nothing st.pending) (sort st.stage) (sort (through st.stage))
