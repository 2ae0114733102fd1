-- How long the copies of a stanza for sessions are, and what is kept of a message between users.
use Rattle.std.proofs.Common.{ℕ, ◌+◌, ◌≤◌, List, [], ◌++◌, length, Option, Some, None, arith, length-append}
use Rattle.std.specs.Prelude.{IfSome}
use Rattle.jid_core.specs.Addresses.{Address, address_text, bare, local_text, resource_text}
use Rattle.stanza_tree.specs.Entries.{frame}
use Rattle.stanza_tree.specs.Spelling.{text}
use Rattle.stanza_tree.specs.Stamps.{sent_by}
use Rattle.stanza_tree.specs.declared.frame.Origin.TheVariants.{Direct}
use Rattle.stanza_tree.specs.declared.node.Element.{Element}
use Rattle.stanza_tree.proofs.Bounds.{length-frame, length-text-sent-le, length-value_text-le}
use Rattle.stanza_model.specs.Ids.{told_with_id, without_ids}
use Rattle.stanza_model.specs.declared.here.Here.{Here}
use Rattle.stanza_router.specs.Messages.{addressed, copied, plain_text, queued_as, receiver, row_text, told_text}
use Rattle.house_model.specs.Fitting.{IsSmall}
use Rattle.house_model.proofs.IdSizes.{numbered-le, without-le}

-- Without an address a stanza is for the sender's bare address, which is no longer than the full one.
pub bare-le : (a : Address) → length (address_text (bare a)) ≤ length (address_text a)
bare-le a =
    omega (
      arith,
      length-append (local_text a.local ++ a.domain) (resource_text a.resource),
      length-append (local_text a.local ++ a.domain) [],
    )

pub addressed-le : (who : Here) (to : Option Address) → length (address_text who.address) ≤ 3071
    → IfSome to (λ a. length (address_text a) ≤ 3071) → length (address_text (addressed who to)) ≤ 3071
addressed-le who None own short = omega (arith, own, bare-le who.address)
addressed-le who (Some to) own short = short

pub copy-small : (who receiver : Here) (to : Option Address) (e : Element) → length (text e) ≤ 196608
    → length (address_text who.address) ≤ 3071 → IfSome to (λ a. length (address_text a) ≤ 3071)
    → IsSmall (copied who to e receiver)
copy-small who receiver to e small own short =
    omega (
      arith,
      small,
      own,
      addressed-le who to own short,
      length-frame (record { to = address_text (addressed who to); rest = text (sent_by (address_text who.address) e); origin = Direct }),
      length-text-sent-le (address_text who.address) e,
      length-value_text-le (address_text (addressed who to)),
    )

-- Messages between users.

receiver-le : (who : Here) (to : Option Address) → length (address_text who.address) ≤ 3071
    → IfSome to (λ a. length (address_text a) ≤ 3071) → length (address_text (receiver who to)) ≤ 3071
receiver-le who to own short = omega (arith, addressed-le who to own short, bare-le (addressed who to))

plain-le : (who : Here) (to : Option Address) (e : Element) → length (text e) ≤ 196608 → length (address_text who.address) ≤ 3071
    → length (plain_text who to e) ≤ 216000
plain-le who to e small own =
    omega (
      arith,
      small,
      own,
      without-le (receiver who to) e,
      length-text-sent-le (address_text who.address) (without_ids (receiver who to) e),
    )

told-le : (who : Here) (to : Option Address) (e : Element) (row : ℕ) → length (text e) ≤ 196608 → length e.name.local ≤ 8
    → length (address_text who.address) ≤ 3071 → IfSome to (λ a. length (address_text a) ≤ 3071) → row ≤ 18446744073709551618
    → length (told_text who to e row) ≤ 240000
told-le who to e row small named own short few =
    omega (
      arith,
      small,
      own,
      numbered-le (receiver who to) row e named (receiver-le who to own short) few,
      length-text-sent-le (address_text who.address) (told_with_id (receiver who to) row e),
    )

framed-le : (who : Here) (to : Option Address) (rest : List ℕ) → length (address_text who.address) ≤ 3071
    → IfSome to (λ a. length (address_text a) ≤ 3071)
    → length (frame (record { to = address_text (addressed who to); rest = rest; origin = Direct })) ≤ length rest + 18500
framed-le who to rest own short =
    omega (
      arith,
      addressed-le who to own short,
      length-frame (record { to = address_text (addressed who to); rest = rest; origin = Direct }),
      length-value_text-le (address_text (addressed who to)),
    )

pub plain-small : (who : Here) (to : Option Address) (e : Element) (session : ℕ) → length (text e) ≤ 196608
    → length (address_text who.address) ≤ 3071 → IfSome to (λ a. length (address_text a) ≤ 3071)
    → IsSmall (queued_as who to (plain_text who to e) session)
plain-small who to e session small own short = omega (arith, plain-le who to e small own, framed-le who to (plain_text who to e) own short)

pub told-small : (who : Here) (to : Option Address) (e : Element) (row session : ℕ) → length (text e) ≤ 196608 → length e.name.local ≤ 8
    → length (address_text who.address) ≤ 3071 → IfSome to (λ a. length (address_text a) ≤ 3071) → row ≤ 18446744073709551618
    → IsSmall (queued_as who to (told_text who to e row) session)
told-small who to e row session small named own short few =
    omega (arith, told-le who to e row small named own short few, framed-le who to (told_text who to e row) own short)

pub row-short : (who : Here) (to : Option Address) (e : Element) → length (text e) ≤ 196608 → length (address_text who.address) ≤ 3071
    → IfSome to (λ a. length (address_text a) ≤ 3071) → length (row_text who to e) ≤ 300000
row-short who to e small own short = omega (arith, plain-le who to e small own, framed-le who to (plain_text who to e) own short)
