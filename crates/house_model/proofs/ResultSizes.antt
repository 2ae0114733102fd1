-- How long a message is that shows a row of an archive, and one that tells a newcomer what was said.
use Rattle.std.proofs.Common.{◌≡◌, ℕ, ◌+◌, ◌-◌, ◌*◌, ◌≤◌, List, [], ◌∷◌, ◌++◌, take, drop, length, nat_lt, Bool, true, false, Option, Some, None}
use Rattle.std.proofs.Common.{codes, refl, ap, arith, length-append, if◌then◌else◌}
use Rattle.std.specs.Prelude.{IfSome}
use Rattle.std.specs.Fmt.{decimal}
use Rattle.std.specs.Option.{option_map}
use Rattle.std.proofs.lemmas.Grind.{common_steps}
use Rattle.std.proofs.lemmas.List.{length-take-le, take-append-drop}
use Rattle.jid_core.specs.Addresses.{Address, address_text}
use Rattle.stanza_tree.specs.Entries.{name_end}
use Rattle.stanza_tree.specs.Spelling.{attributes, client_space, closed, declarations, named, opened, text, text_with}
use Rattle.stanza_tree.specs.declared.frame.Origin.TheVariants.{Direct}
use Rattle.stanza_tree.specs.declared.node.Attr.{Attr}
use Rattle.stanza_tree.proofs.Bounds.{length-frame, length-value_text-le}
use Rattle.stanza_model.specs.Errors.{attr_if, element_of, plain_attr}
use Rattle.stanza_model.specs.declared.here.Here.{Here}
use Rattle.stanza_model.specs.declared.room.Delayed.{Delayed}
use Rattle.muc_room.specs.Histories as histories
use Rattle.muc_room.specs.Histories.{delayed_text, is_ended, message_end}
use Rattle.rsm_paging.specs.declared.ask.Row.{Row}
use Rattle.mam_wire.specs.Answers.{mam_space}
use Rattle.mam_wire.specs.Queries.{is_long}
use Rattle.mam_wire.specs.Results.{delay_element, delay_space, forward_space, forwarded_element, in_client_space}
use Rattle.mam_wire.specs.Results.{result_message, result_text}
use Rattle.mam_wire.specs.Stamps.{stamp_text}
use Rattle.mam_wire.proofs.StampLemmas.{stamp_length}
use Rattle.house_model.specs.Archives.{shown_to}
use Rattle.house_model.specs.Fitting.{IsShortAddress, IsSmall}
use Rattle.house_model.proofs.ReplySizes.{closed-le, named-le, plain-attributes, plain-declared, spelt_length, under-le}
use Rattle.house_model.proofs.RosterSizes.{number-le}

-- an element with this content
with-le : (space local : List ℕ) (attrs : List Attr) (content : List ℕ)
    → length (text_with (element_of space local attrs []) content)
    ≤ 14 + 2 * length local + 6 * length space + length (declarations 0 attrs) + length (attributes 0 attrs) + length content
unfolding opened
with-le space local attrs content =
    omega (
      arith,
      named-le client_space (record { space = space; local = local }),
      closed-le local content,
      length-append (opened client_space (record { space = space; local = local }) attrs) (closed local content),
      length-append (named client_space (record { space = space; local = local }) ++ declarations 0 attrs) (attributes 0 attrs),
      length-append (named client_space (record { space = space; local = local })) (declarations 0 attrs),
    )

-- an attribute that may be there

attr-declared : (local : List ℕ) (value : Option (List ℕ)) → declarations 0 (attr_if local value) ≡ []
attr-declared local None = refl
attr-declared local (Some value) = plain-declared local value []

attr-le : (local : List ℕ) (value : Option (List ℕ)) → length (attributes 0 (attr_if local value)) ≤ 4 + length local + spelt_length value
attr-le local None = omega arith
attr-le local (Some value) = omega (arith, plain-attributes local value [])

from-short : (from : Option Address) → IfSome from IsShortAddress → spelt_length (option_map address_text from) ≤ 18426
from-short None short = omega arith
from-short (Some a) short = omega (arith, short, length-value_text-le (address_text a))

not-long : (n : ℕ) → nat_lt 1024 n ≡ false → n ≤ 1024
not-long n short = grind (arith, common_steps)

queryid-short : (id : Option (List ℕ)) → is_long id ≡ false → spelt_length id ≤ 6144
queryid-short None short = omega arith
queryid-short (Some id) short = omega (arith, not-long (length id) short, length-value_text-le id)

-- A row.

delay-le : (stamp : List ℕ) → length stamp ≤ 24 → length (text (delay_element stamp)) ≤ 500
delay-le stamp short =
    omega (
      arith,
      short,
      under-le client_space delay_space (codes "delay") (plain_attr (codes "stamp") stamp ∷ []) [],
      plain-attributes (codes "stamp") stamp [],
      ap length (plain-declared (codes "stamp") stamp []),
      length-value_text-le stamp,
    )

moved-le : (stanza : List ℕ) → length (in_client_space stanza) ≤ length stanza + 30
moved-le stanza =
    let front : List ℕ = take (name_end stanza) stanza in
    let rest : List ℕ = drop (name_end stanza) stanza in
    omega (
      arith,
      length-append (front ++ codes " xmlns='jabber:client'") rest,
      length-append front (codes " xmlns='jabber:client'"),
      length-append front rest,
      ap length (take-append-drop (name_end stanza) stanza),
    )

forwarded-le : (stamp words : List ℕ) → length stamp ≤ 24 → length words ≤ 300000
    → length (text_with forwarded_element (text (delay_element stamp) ++ in_client_space words)) ≤ 300800
forwarded-le stamp words short few =
    omega (
      arith,
      few,
      with-le forward_space (codes "forwarded") [] (text (delay_element stamp) ++ in_client_space words),
      length-append (text (delay_element stamp)) (in_client_space words),
      delay-le stamp short,
      moved-le words,
    )

result-le : (row : Row) (queryid : Option (List ℕ)) (stamp : List ℕ) → length stamp ≤ 24 → length row.text ≤ 300000 → row.id ≤ 18446744073709551618
    → is_long queryid ≡ false → length (result_text row queryid stamp) ≤ 308000
result-le row queryid stamp short few low fits =
    let more : List Attr = attr_if (codes "queryid") queryid in
    omega (
      arith,
      with-le mam_space (codes "result") (plain_attr (codes "id") (decimal row.id) ∷ more)
          (text_with forwarded_element (text (delay_element stamp) ++ in_client_space row.text)),
      plain-attributes (codes "id") (decimal row.id) more,
      ap length (plain-declared (codes "id") (decimal row.id) more),
      ap length (attr-declared (codes "queryid") queryid),
      attr-le (codes "queryid") queryid,
      queryid-short queryid fits,
      length-value_text-le (decimal row.id),
      number-le row.id low,
      forwarded-le stamp row.text short few,
    )

message-le : (from : Option Address) (queryid : Option (List ℕ)) (row : Row) → IfSome from IsShortAddress → is_long queryid ≡ false
    → length row.text ≤ 300000 → row.id ≤ 18446744073709551618 → length (result_message from queryid row) ≤ 328000
message-le from queryid row short fits few low =
    let stamp : List ℕ = stamp_text row.stamp in
    omega (
      arith,
      with-le client_space (codes "message") (attr_if (codes "from") (option_map address_text from)) (result_text row queryid stamp),
      ap length (attr-declared (codes "from") (option_map address_text from)),
      attr-le (codes "from") (option_map address_text from),
      from-short from short,
      result-le row queryid stamp (omega (arith, stamp_length row.stamp)) few low fits,
    )

pub shown-small : (who : Here) (from : Option Address) (queryid : Option (List ℕ)) (row : Row) → IsShortAddress who.address
    → IfSome from IsShortAddress → is_long queryid ≡ false → length row.text ≤ 300000 → row.id ≤ 18446744073709551618
    → IsSmall (shown_to who from queryid row)
shown-small who from queryid row own short fits few low =
    omega (
      arith,
      own,
      message-le from queryid row short fits few low,
      length-frame (record { to = address_text who.address; rest = result_message from queryid row; origin = Direct }),
      length-value_text-le (address_text who.address),
    )

-- What was said.

abbrev pub IsShortDelayed : Delayed → Type 0
IsShortDelayed d = (length d.text ≤ 300000) × (length d.stamp ≤ 24)

since-le : (room : Address) (stamp : List ℕ) → IsShortAddress room → length stamp ≤ 24 → length (text (histories.delay room stamp)) ≤ 19000
since-le room stamp short few =
    let l : List Attr = plain_attr (codes "stamp") stamp ∷ [] in
    omega (
      arith,
      short,
      few,
      under-le client_space histories.delay_space (codes "delay") (plain_attr (codes "from") (address_text room) ∷ l) [],
      plain-attributes (codes "from") (address_text room) l,
      plain-attributes (codes "stamp") stamp [],
      ap length (plain-declared (codes "from") (address_text room) l),
      ap length (plain-declared (codes "stamp") stamp []),
      length-value_text-le (address_text room),
      length-value_text-le stamp,
    )

last-by : (b : Bool) (child words : List ℕ)
    → length (if b then take (length words - 10) words ++ child ++ message_end else words) ≤ length words + length child + 10
last-by false child words = omega arith
last-by true child words =
    let front : List ℕ = take (length words - 10) words in
    omega (
      arith,
      length-append (front ++ child) message_end,
      length-append front child,
      length-take-le (length words - 10) words (omega arith),
    )

pub delayed-le : (room : Address) (d : Delayed) → IsShortAddress room → IsShortDelayed d → length (delayed_text room d) ≤ 320000
delayed-le room d short is =
    omega (
      arith,
      is.0,
      since-le room d.stamp short is.1,
      last-by (is_ended d.text) (text (histories.delay room d.stamp)) d.text,
    )
