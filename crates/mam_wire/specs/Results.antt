-- A row as it is shown (XEP-0313, 4.2, with XEP-0297 and XEP-0203).
use Rattle.std.specs.Prelude.{ℕ, List, [], ◌∷◌, ◌++◌, take, drop, codes, Option}
use Rattle.std.specs.Option.{option_map}
use Rattle.std.specs.Fmt.{decimal}
use Rattle.stanza_tree.specs.Entries.{name_end}
use Rattle.jid_core.specs.Addresses.{Address, address_text}
use Rattle.stanza_tree.specs.Spelling.{client_space, text, text_with}
use Rattle.stanza_tree.specs.declared.node.Element.{Element}
use Rattle.stanza_model.specs.Errors.{attr_if, element_of, plain_attr}
use Rattle.rsm_paging.specs.declared.ask.Row.{Row}
use Rattle.mam_wire.specs.Answers.{mam_space}
use Rattle.mam_wire.specs.Stamps.{stamp_text}

abbrev pub forward_space : List ℕ
forward_space = codes "urn:xmpp:forward:0"

abbrev pub delay_space : List ℕ
delay_space = codes "urn:xmpp:delay"

-- a stanza's spelling where it stands in another namespace than that of stanzas, which is named right after its name
abbrev pub in_client_space : List ℕ → List ℕ
in_client_space stanza = take (name_end stanza) stanza ++ codes " xmlns='jabber:client'" ++ drop (name_end stanza) stanza

abbrev pub result_element : (id : ℕ) → (queryid : Option (List ℕ)) → Element
result_element id queryid =
    element_of mam_space (codes "result") (plain_attr (codes "id") (decimal id) ∷ attr_if (codes "queryid") queryid) []

abbrev pub forwarded_element : Element
forwarded_element = element_of forward_space (codes "forwarded") [] []

abbrev pub delay_element : (stamp : List ℕ) → Element
delay_element stamp = element_of delay_space (codes "delay") (plain_attr (codes "stamp") stamp ∷ []) []

-- `<result id='N' queryid='Q'><forwarded><delay stamp='S'/>MESSAGE</forwarded></result>`, each in its namespace
abbrev pub result_text : Row → (queryid : Option (List ℕ)) → (stamp : List ℕ) → List ℕ
result_text row queryid stamp =
    text_with (result_element row.id queryid) (text_with forwarded_element (text (delay_element stamp) ++ in_client_space row.text))

-- `<message from='ROOM'>` with a row of a room's archive; one of the client's own has no `from`
abbrev pub message_from : (from : Option Address) → Element
message_from from = element_of client_space (codes "message") (attr_if (codes "from") (option_map address_text from)) []

-- XEP-0313, 4.2: the message that shows a row, without its `to`
abbrev pub result_message : (from : Option Address) → (queryid : Option (List ℕ)) → Row → List ℕ
result_message from queryid row = text_with (message_from from) (result_text row queryid (stamp_text row.stamp))
