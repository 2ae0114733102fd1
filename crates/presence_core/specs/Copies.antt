-- Presence as it goes to the sessions that get it.
use Rattle.std.specs.Prelude.{ℕ, List, map}
use Rattle.jid_core.specs.Addresses.{address_text}
use Rattle.stanza_tree.specs.Spelling.{text}
use Rattle.stanza_tree.specs.Stamps.{sent_by}
use Rattle.stanza_tree.specs.declared.frame.Origin.TheVariants.{Direct}
use Rattle.stanza_tree.specs.declared.node.Element.{Element}
use Rattle.stanza_model.specs.declared.effect.Effect.{Effect}
use Rattle.stanza_model.specs.declared.effect.Effect.TheVariants.{Queue}
use Rattle.stanza_model.specs.declared.here.Here.{Here}

-- RFC 6120, 8.1.2.1: it comes from the sender's full address; its `to` stands beside the text
abbrev pub presence_text : Here → Element → List ℕ
presence_text who e = text (sent_by (address_text who.address) e)

-- RFC 6121, 4.2.3 and 4.6.4: a session gets it; its `to` is that session's full address
abbrev pub copy_to : List ℕ → Here → Effect
copy_to rest receiver = Queue receiver.session (address_text receiver.address) rest Direct

abbrev pub copies : List ℕ → List Here → List Effect
copies rest receivers = map (copy_to rest) receivers
