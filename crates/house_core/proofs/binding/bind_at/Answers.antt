use Rattle.std.proofs.Common.{◌≡◌, ◌<◌, ◌≤◌, true, List, length, refl, sym, ap, subst, arith}
use Rattle.jid_core.specs.Addresses.{address_text}
use Rattle.archive_table.specs.Archives.{Archives}
use Rattle.archive_table.specs.Tables.{archives_of}
use Rattle.session_table.specs.declared.line.Line as stage
use Rattle.session_table.specs.Tables.{conn_of, is_logged, line_of}
use Rattle.house_model.specs.declared.answer.Answer.{Answer}
use Rattle.house_model.specs.Answers.{answer_text}
use Rattle.house_model.specs.States.{World}
use Rattle.house_model.specs.Traffic.{KeptTraffic}
use Rattle.house_core.specs.Bindings.{begun_in, told_in}
use Rattle.house_world.specs.Hosting.{Archived, IsCast}
use Rattle.house_world.specs.Worlds.{Did, seen}
use Rattle.house_world.proofs.CastLemmas.{hosts_by}
use Rattle.house_core.proofs.BoundLemmas.{bound_fits, room_answers, room_line, room_then}
use Rattle.house_world.proofs.WorldLemmas.{few_later}
use Rattle.house_core.proofs.binding.bind_at.Goals as goal

pub settle-requires-clause-small : goal.settle-requires-clause-small
settle-requires-clause-small c =
    few_later _ _ c.make_room.new.world.table (c.make_room.ensures.same.few _ c.requires.small) (omega arith)

pub settle-requires-clause-logged : goal.settle-requires-clause-logged
settle-requires-clause-logged c =
    subst (λ (l : stage.Line). is_logged l ≡ true) (sym (room_line c.args.w c.args.world.now c.make_room.new.world c.make_room.ensures.same)) c.requires.logged

pub settle-requires-clause-few : goal.settle-requires-clause-few
settle-requires-clause-few c =
    subst (λ (xs : List Answer). length xs < 8) (sym (room_answers c.args.w c.args.world.now c.make_room.new.world c.make_room.ensures.same)) c.requires.few

pub settle-requires-clause-told : goal.settle-requires-clause-told
settle-requires-clause-told c =
    subst (λ (x : World KeptTraffic). IsCast (told_in x c.args.address) x.rooms c.in_ok-told.told) (sym c.make_room.ensures.same.world)
    c.in_ok-told.ensures.told

pub settle-requires-clause-answer : goal.settle-requires-clause-answer
settle-requires-clause-answer c =
    subst (λ (a : Answer). length (answer_text a) ≤ 524288) (sym c.in_ok-answer.ensures.answer)
    (bound_fits c.args.id.now (address_text c.args.address) c.requires.id c.in_ok-answer.ensures.short)

pub returns-clause-done : goal.returns-clause-done
returns-clause-done c =
    let a = c.args.world.now in
    subst (λ (x : Answer). Did (begun_in (seen a) c.args.w (conn_of (line_of c.args.w a.table)) c.args.address x) 1 a c.settle.new.world)
    c.in_ok-answer.ensures.answer
    (room_then c.args.w c.args.address c.in_ok-answer.answer a c.make_room.new.world c.settle.new.world c.make_room.ensures.same c.settle.ensures.did)

pub returns-clause-hosts : goal.returns-clause-hosts
returns-clause-hosts c =
    hosts_by c.args.world.now.rooms c.args.world.now.rooms c.make_room.new.world.rooms c.settle.new.world.rooms c.in_ok-told.told.rooms refl
    (ap (λ (x : World KeptTraffic). x.rooms) c.make_room.ensures.same.world) c.settle.ensures.rooms c.in_ok-told.ensures.hosts

pub returns-clause-archives : goal.returns-clause-archives
returns-clause-archives c =
    subst (λ (x : Archives). Archived x (archives_of c.settle.new.world.archives))
    (ap (λ (x : World KeptTraffic). x.archives) c.make_room.ensures.same.world) c.settle.ensures.archives
