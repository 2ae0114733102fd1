use Rattle.std.proofs.Common.{rules, ap, sym, ◌∙◌, min}
use Rattle.std.specs.Option.{option_copied}
use Rattle.jid_core.specs.Addresses.{address_text}
use Rattle.stanza_tree.specs.declared.frame.Entry.{Entry}
use Rattle.stanza_tree.specs.declared.frame.Origin.TheVariants.{Direct}
use Rattle.presence_core.specs.Copies.{presence_text}
use Rattle.house_model.specs.Presences.{length_sent}
use Rattle.house_routing.proofs.presence.length_sent.Goals as goal

pub returns-in_ok-written-in-Some : goal.returns-in_ok-written-in-Some
returns-in_ok-written-in-Some c =
    let e : Entry = record {
      to = address_text c.in-Some.to.now;
      rest = presence_text c.args.who.now c.args.element.now;
      origin = Direct;
    } in
    c.frame_length.ensures e (search rules) (search rules)
    ∙ ap (λ o. min (length_sent c.args.who.now o c.args.element.now) 18446744073709551615) (sym (ap option_copied c.in-Some.is))
