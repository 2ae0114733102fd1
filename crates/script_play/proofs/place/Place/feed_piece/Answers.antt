use Rattle.std.proofs.Common.{◌≡◌, sym, ap, ◌∙◌, rules}
use Rattle.std.specs.Option.{is_some}
use Rattle.std.specs.Prelude.{None, Some, true}
use Rattle.stream_frames.specs.Fed.{Fed}
use Rattle.stream_grammar.specs.machine.Reading.{Reading, handed, is_ready, waiting}
use Rattle.stream_frames.specs.Limits.{limits}
use Rattle.script_play.proofs.PieceLemmas.{piece_fed, piece_stopped, item_printed, none_printed}
use Rattle.script_play.proofs.place.Place.feed_piece.Goals as goal

pub returns-then-is_some-clause-fed : goal.returns-then-is_some-clause-fed
returns-then-is_some-clause-fed c =
    let s : Reading = c.args.self.now.framer.reading in
    let ready : is_ready s ≡ true = search rules in
    piece_stopped s c.next.new.self.reading c.args.piece.now c.args.print.now.items ready (ap is_some (sym c.next.ensures.item)
    ∙ (sym c.is_some.ensures ∙ c.if-is_some.true)) (ap (λ (x : Fed). x.reading) c.next.ensures.handed)

pub returns-in_ok-print_item-clause-fed : goal.returns-in_ok-print_item-clause-fed
returns-in_ok-print_item-clause-fed c =
    let s : Reading = c.args.self.now.framer.reading in
    let same : c.next.new.self.limits ≡ limits = search rules in
    let held : c.next.new.self.reading ≡ handed s = search rules in
    let ready : is_ready s ≡ true = search rules in
    let before : waiting s ≡ None = search rules in
    let on = piece_fed c.next.new.self.limits s c.next.new.self.reading c.feed.new.self.reading c.next-2.new.self.reading c.args.piece.now c.in-Ok.taken
    (Some c.in-Some.item) same held ready before c.in-Ok.ensures.taken
    c.in-Ok.ensures.read (ap (λ (x : Fed). x.reading) c.next-2.ensures.handed) (sym c.in-Some.is ∙ c.next-2.ensures.item) in
    item_printed s c.next-2.new.self.reading c.args.piece.now c.in-Ok.taken c.in-Some.item c.args.print.now.items c.print_item.new.out.items on
    c.in_ok-print_item.ensures.ok

pub returns-in_default-clause-fed : goal.returns-in_default-clause-fed
returns-in_default-clause-fed c =
    let s : Reading = c.args.self.now.framer.reading in
    let same : c.next.new.self.limits ≡ limits = search rules in
    let held : c.next.new.self.reading ≡ handed s = search rules in
    let ready : is_ready s ≡ true = search rules in
    let before : waiting s ≡ None = search rules in
    let on = piece_fed c.next.new.self.limits s c.next.new.self.reading c.feed.new.self.reading c.next-2.new.self.reading c.args.piece.now c.in-Ok.taken None
    same held ready before c.in-Ok.ensures.taken c.in-Ok.ensures.read
    (ap (λ (x : Fed). x.reading) c.next-2.ensures.handed) (sym c.in_default.is ∙ c.next-2.ensures.item) in
    none_printed s c.next-2.new.self.reading c.args.piece.now c.in-Ok.taken c.args.print.now.items on
