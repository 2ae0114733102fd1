-- Why a tag could not become an element: memory was wanting, or its names are refused.
use Rattle.std.specs.Prelude.{◌≡◌, ℕ, List, [], ◌∷◌, Some}
use Rattle.stream_lex.specs.declared.Token.{Token}
use Rattle.stream_lex.specs.declared.Token.TheVariants as token
use Rattle.stream_grammar.specs.declared.namespaces.Binding.{Binding}
use Rattle.stream_grammar.specs.declared.namespaces.Written.{Written}
use Rattle.stream_frames.specs.declared.tags.TagFault.{TagFault}
use Rattle.stream_frames.specs.declared.tags.TagFault.TheVariants as fault
use Rattle.stream_grammar.specs.grammar.Namespaces.{tag_fault}
use Rattle.stream_grammar.specs.grammar.Elements.{fault_of_tag}
use Rattle.stream_grammar.specs.machine.Building.{Building}

-- the names are refused
abbrev pub IsTagFault : List (List Binding) → List ℕ → List Written → TagFault → Type 0
IsTagFault layers name attributes fault.NoMemory = Unit {0}
IsTagFault layers name attributes (fault.Names f) = tag_fault layers name attributes ≡ Some f

-- why a tag could not be prepared
abbrev pub IsStartFault : Building → TagFault → Type 0
IsStartFault b fault.NoMemory = Unit {0}
IsStartFault b (fault.Names f) = fault_of_tag b.layers b.tag ≡ Some f

-- why a token could not be prepared
abbrev pub IsFaultOf : Building → Token → TagFault → Type 0
IsFaultOf b (token.TagEnds empty) f = IsStartFault b f
IsFaultOf b t f = f ≡ fault.NoMemory

abbrev pub AreFaultOf : Building → List Token → TagFault → Type 0
AreFaultOf b (t ∷ []) f = IsFaultOf b t f
AreFaultOf b ts f = f ≡ fault.NoMemory
