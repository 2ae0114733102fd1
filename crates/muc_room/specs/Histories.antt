-- What was said earlier, as a newcomer is told it (XEP-0045, 7.2.13 to 7.2.15, with XEP-0203).
use Rattle.std.specs.Prelude.{ℕ, ◌-◌, ◌==◌, List, [], ◌∷◌, ◌++◌, map, take, drop, length, codes, bytes_eq, Bool, true, false, Option, Some, None, if◌then◌else◌}
use Rattle.std.specs.Option.{option_and_then}
use Rattle.jid_core.specs.Addresses.{Address, address_text}
use Rattle.stanza_tree.specs.Attributes.{attr_of}
use Rattle.stanza_tree.specs.Children.{child_of}
use Rattle.stanza_tree.specs.Spelling.{text}
use Rattle.stanza_tree.specs.declared.frame.Origin.TheVariants.{Opening}
use Rattle.stanza_tree.specs.declared.node.Element.{Element}
use Rattle.stanza_model.specs.Errors.{element_of, plain_attr}
use Rattle.stanza_model.specs.Nonzas.{count_of}
use Rattle.stanza_model.specs.declared.effect.Effect.{Effect}
use Rattle.stanza_model.specs.declared.effect.Effect.TheVariants.{Queue}
use Rattle.stanza_model.specs.declared.here.Here.{Here}
use Rattle.stanza_model.specs.declared.room.Delayed.{Delayed}
use Rattle.stanza_model.specs.declared.room.Room.{Room}
use Rattle.muc_room.specs.Views.{muc_space}

-- A message with when it was said.

abbrev pub delay_space : List ℕ
delay_space = codes "urn:xmpp:delay"

-- XEP-0203, 2: `<delay xmlns='urn:xmpp:delay' from='ROOM' stamp='STAMP'/>`
abbrev pub delay : Address → (stamp : List ℕ) → Element
delay room stamp =
    element_of delay_space (codes "delay") (plain_attr (codes "from") (address_text room) ∷ plain_attr (codes "stamp") stamp ∷ []) []

abbrev pub message_end : List ℕ
message_end = codes "</message>"

-- the spelling of a message that has children ends so
abbrev pub is_ended : List ℕ → Bool
is_ended text = bytes_eq (drop (length text - 10) text) message_end

-- with one child more, the last
abbrev pub with_last : (child text : List ℕ) → List ℕ
with_last child text = if is_ended text then take (length text - 10) text ++ child ++ message_end else text

abbrev pub delayed_text : Address → Delayed → List ℕ
delayed_text room d = with_last (text (delay room d.stamp)) d.text

-- How much of it is asked for.

abbrev pub history_in : Element → Option Element
history_in e = option_and_then (λ x. child_of muc_space (codes "history") x.children) (child_of muc_space (codes "x") e.children)

-- what an attribute counts, where it can be read
abbrev pub limit_in : List ℕ → Element → Option ℕ
limit_in local history = option_and_then count_of (attr_of local history.attrs)

abbrev pub is_zero : Option ℕ → Bool
is_zero None = false
is_zero (Some n) = n == 0

-- XEP-0045, 7.2.13: at most so many messages; none where they are to have no characters
abbrev pub limit_by : Option Element → Option ℕ
limit_by None = None
limit_by (Some history) = if is_zero (limit_in (codes "maxchars") history) then Some 0 else limit_in (codes "maxstanzas") history

abbrev pub limited : Option ℕ → List Delayed → List Delayed
limited None past = past
limited (Some n) past = drop (length past - n) past

-- the last of what was said, as many as are asked for
abbrev pub wanted_of : Element → List Delayed → List Delayed
wanted_of e past = limited (limit_by (history_in e)) past

-- What the newcomer is told.

abbrev pub told_again : Room → (stay : ℕ) → Here → Delayed → Effect
told_again room stay who d = Queue who.session (address_text who.address) (delayed_text room.address d) (Opening room.number stay)

abbrev pub history : Room → (stay : ℕ) → Here → List Delayed → List Effect
history room stay who past = map (told_again room stay who) past
