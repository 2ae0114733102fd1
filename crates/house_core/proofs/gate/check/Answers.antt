use Rattle.std.proofs.Common.{sym, ◌∙◌, ◌+◌, arith}
use Rattle.house_world.proofs.WorldLemmas.{few_later}
use Rattle.session_table.specs.Tables.{conn_of, line_of}
use Rattle.house_core.proofs.CallLemmas.{flood_archives, flood_rooms}
use Rattle.house_core.proofs.GateLemmas.{found_is, gate_floods}
use Rattle.house_core.proofs.gate.check.Goals as goal

pub returns-in-Some-clause-found : goal.returns-in-Some-clause-found
returns-in-Some-clause-found c =
    found_is c.args.needs.now c.args.world.now c.args.w c.in-Some.pass c.requires.tied (sym c.look.ensures ∙ c.in-Some.is)

pub returns-in-None-clause-passes : goal.returns-in-None-clause-passes
returns-in-None-clause-passes c =
    gate_floods c.args.needs.now c.args.w c.args.moment c.args.world.now c.flood.new.world (sym c.look.ensures ∙ c.in-None.is) c.flood.ensures

pub returns-in-None-clause-few : goal.returns-in-None-clause-few
returns-in-None-clause-few c = λ turns few. few_later (turns + 0) turns c.flood.new.world.table (c.flood.ensures.few turns few) (omega arith)

pub returns-in-None-clause-archives : goal.returns-in-None-clause-archives
returns-in-None-clause-archives c =
    flood_archives c.args.world.now c.flood.new.world c.args.w (conn_of (line_of c.args.w c.args.world.now.table)) c.args.moment
    (line_of c.args.w c.args.world.now.table) c.flood.ensures

pub returns-in-None-clause-rooms : goal.returns-in-None-clause-rooms
returns-in-None-clause-rooms c =
    flood_rooms c.args.world.now c.flood.new.world c.args.w (conn_of (line_of c.args.w c.args.world.now.table)) c.args.moment
    (line_of c.args.w c.args.world.now.table) c.flood.ensures
