-- Reading a text by its fields, which one space separates.
use Rattle.std.specs.Prelude.{◌≡◌, ℕ, List, Option, Some, None, Result, Ok, Err, ⊤}
use Rattle.std.specs.Option.{option_and_then}
use Rattle.jid_core.specs.Cuts.{before, after}
use Rattle.stanza_tree.specs.declared.text.TextFault.{TextFault}
use Rattle.stanza_tree.specs.declared.text.TextFault.TheVariants as text
use Rattle.jid_core.specs.declared.fault.JidFault.{JidFault}
use Rattle.jid_core.specs.declared.fault.JidFault.TheVariants as jid
use Rattle.stanza_model.specs.declared.stanza.StanzaFault.{StanzaFault}
use Rattle.stanza_model.specs.declared.stanza.StanzaFault.TheVariants as stanza
use Rattle.replay_script.specs.declared.fault.LineFault.{LineFault}
use Rattle.replay_script.specs.declared.fault.LineFault.TheVariants.{Bad, NoMemory}

-- what is read of a text, and then the rest by it
abbrev pub on : {X Y : Type 0} → Option X → (X → Option Y) → Option Y
on read more = option_and_then more read

-- the first field and what stands after its space, and then the rest by both
abbrev pub cut : {Y : Type 0} → List ℕ → (List ℕ → List ℕ → Option Y) → Option Y
cut text more = option_and_then (more (before 32 text)) (after 32 text)

-- what was answered is what the text is read as, and a fault is told where it is read as nothing. Want of memory has no cause here.
abbrev pub Gives : {X : Type 0} → Option X → Result X LineFault → Type 0
Gives read (Ok x) = read ≡ Some x
Gives read (Err Bad) = read ≡ None
Gives read (Err NoMemory) = ⊤

-- the fault of a line that a text, an address or a stanza in it has
abbrev pub of_text : TextFault → LineFault
of_text text.NoMemory = NoMemory
of_text (text.NotUtf8 place) = Bad

abbrev pub of_address : JidFault → LineFault
of_address jid.NoMemory = NoMemory
of_address (jid.Empty which) = Bad
of_address (jid.Long which) = Bad
of_address (jid.Bad which place) = Bad

abbrev pub of_stanza : StanzaFault → LineFault
of_stanza stanza.NoMemory = NoMemory
of_stanza stanza.Unsupported = Bad
