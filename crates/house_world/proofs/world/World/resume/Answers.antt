use Rattle.std.proofs.Common.{◌≡◌, ◌≤◌, [], ◌∷◌, length, sym, ap, subst, ◌∙◌, arith}
use Rattle.std.specs.Option.{option_copied}
use Rattle.std.proofs.lemmas.List.{length-set}
use Rattle.session_table.specs.declared.line.Line.TheVariants.{Bound}
use Rattle.session_table.specs.Sessions.{SessionRecord}
use Rattle.session_table.specs.Tables.{IsLive, TableRecord, attached, conn_of, line_of}
use Rattle.house_model.specs.Effects.{On}
use Rattle.house_model.specs.Sessions.{Resume}
use Rattle.house_world.proofs.DidLemmas.{did_beside}
use Rattle.house_world.proofs.ResumeLemmas.{live_now, live_then, moved_holds, moved_low, resume_away_did, resume_moved_did}
use Rattle.house_world.proofs.world.World.resume.Goals as goal

pub inward-count-requires : goal.inward-count-requires
inward-count-requires c =
    subst (λ (y : SessionRecord). y.base_in ≤ y.acted) (sym c.session-2.view_is)
    (c.requires.tied.each c.args.s c.in-Some.session.now (sym c.session.ensures.session ∙ ap option_copied c.in-Some.is)).base_in

pub attach-requires-clause-live : goal.attach-requires-clause-live
attach-requires-clause-live c =
    subst (IsLive c.args.s) (sym c.rewind.ensures.table) (live_then c.args.s c.args.n c.args.self.now.table c.requires.live)

pub line_over-requires-clause-line : goal.line_over-requires-clause-line
line_over-requires-clause-line c =
    let x = c.in-Some.session.now in
    let there = sym c.session.ensures.session ∙ ap option_copied c.in-Some.is in
    let handled = c.requires.handled x there in
    moved_low c.args.self.now c.args.w c.args.s c.args.h c.args.n x c.requires.tied c.requires.line c.requires.answered there
    (live_now c.args.s c.args.self.now.table x there c.requires.live) (c.requires.counts x there) c.requires.logged handled.0 handled.1
    c.in-Some-old.v (sym c.holder-old.ensures ∙ c.in-Some-old.is) c.attach.new.self
    (c.attach.ensures ∙ ap (attached c.args.s c.args.w) c.rewind.ensures.table)

pub line_over-requires-clause-free : goal.line_over-requires-clause-free
line_over-requires-clause-free c =
    let x = c.in-Some.session.now in
    let there = sym c.session.ensures.session ∙ ap option_copied c.in-Some.is in
    let handled = c.requires.handled x there in
    moved_holds c.args.self.now c.args.w c.args.s c.args.h c.args.n x c.requires.tied c.requires.line c.requires.answered there
    (live_now c.args.s c.args.self.now.table x there c.requires.live) (c.requires.counts x there) c.requires.logged handled.0 handled.1
    c.in-Some-old.v (sym c.holder-old.ensures ∙ c.in-Some-old.is) c.attach.new.self
    (c.attach.ensures ∙ ap (attached c.args.s c.args.w) c.rewind.ensures.table) c.session.ensures.rises

pub index_mut-requires : goal.index_mut-requires
index_mut-requires c =
    let x = c.in-Some.session.now in
    let there = sym c.session.ensures.session ∙ ap option_copied c.in-Some.is in
    let handled = c.requires.handled x there in
    let low = moved_low c.args.self.now c.args.w c.args.s c.args.h c.args.n x c.requires.tied c.requires.line c.requires.answered there
    (live_now c.args.s c.args.self.now.table x there c.requires.live) (c.requires.counts x there) c.requires.logged handled.0 handled.1
    c.in-Some-old.v (sym c.holder-old.ensures ∙ c.in-Some-old.is) c.attach.new.self
    (c.attach.ensures ∙ ap (attached c.args.s c.args.w) c.rewind.ensures.table) in
    let lines : length c.attach.new.self.lines ≡ length c.args.self.now.table.lines =
    ap (λ (t : TableRecord). length t.lines) (c.attach.ensures ∙ ap (attached c.args.s c.args.w) c.rewind.ensures.table)
    ∙ length-set c.args.self.now.table.lines c.args.w (Bound (conn_of (line_of c.args.w c.args.self.now.table)) c.args.s) in
    let answers : length c.rewind.new.self.answers.items ≡ length c.args.self.now.answers.items =
    ap (λ (vs : _). length vs.items) c.rewind.ensures.answers in
    omega (arith, low, lines, answers, c.requires.answered)

pub returns-in-Some-old-clause-did : goal.returns-in-Some-old-clause-did
returns-in-Some-old-clause-did c =
    let x = c.in-Some.session.now in
    let there = sym c.session.ensures.session ∙ ap option_copied c.in-Some.is in
    let handled = c.requires.handled x there in
    did_beside (On c.args.s (Resume c.args.w c.args.conn c.args.h) ∷ []) 0 c.args.self.now _ c.note.new.self
    (resume_moved_did c.args.self.now c.args.w c.args.s c.args.h c.args.n x c.requires.tied c.requires.line c.requires.answered there
    (live_now c.args.s c.args.self.now.table x there c.requires.live) (c.requires.counts x there) c.requires.logged handled.0 handled.1
    c.in-Some-old.v (sym c.holder-old.ensures ∙ c.in-Some-old.is) c.line_over.new.self c.attach.new.self c.clear.new.self c.args.conn
    (c.attach.ensures ∙ ap (attached c.args.s c.args.w) c.rewind.ensures.table) c.requires.conn c.line_over.ensures c.clear.ensures
    c.rewind.new.self c.rewind.ensures.answers c.rewind.ensures.book c.rewind.ensures.rooms c.rewind.ensures.archives)

pub returns-in_default-old-clause-did : goal.returns-in_default-old-clause-did
returns-in_default-old-clause-did c =
    let x = c.in-Some.session.now in
    let there = sym c.session.ensures.session ∙ ap option_copied c.in-Some.is in
    let handled = c.requires.handled x there in
    resume_away_did c.args.self.now c.args.w c.args.s c.args.h c.args.n x c.requires.tied c.requires.line c.requires.answered there
    (live_now c.args.s c.args.self.now.table x there c.requires.live) (c.requires.counts x there) c.requires.logged handled.0 handled.1
    c.attach.new.self c.args.conn (c.attach.ensures ∙ ap (attached c.args.s c.args.w) c.rewind.ensures.table) c.requires.conn
    (sym c.holder-old.ensures ∙ c.in_default-old.is) c.rewind.new.self c.rewind.ensures.answers c.rewind.ensures.book c.rewind.ensures.rooms c.rewind.ensures.archives
