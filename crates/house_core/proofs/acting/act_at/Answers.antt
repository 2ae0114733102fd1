use Rattle.std.proofs.Common.{◌≡◌, ℕ, ◌+◌, ◌^◌, List, [], refl, sym, ap, subst, ◌∙◌}
use Rattle.std.specs.Prelude.{unwrap_or}
use Rattle.jid_core.specs.Addresses.{Address}
use Rattle.house_model.specs.declared.event.Event.TheVariants.{Act}
use Rattle.house_model.specs.Gate.{gate}
use Rattle.house_model.specs.Steps.{verdict}
use Rattle.house_model.specs.Routing.{effects}
use Rattle.house_model.specs.States.{World}
use Rattle.house_model.specs.Traffic.{KeptTraffic}
use Rattle.stanza_model.specs.declared.effect.Effect.{Effect}
use Rattle.archive_table.specs.Archives.{Archives}
use Rattle.archive_table.specs.Tables.{archives_of}
use Rattle.muc_service.specs.Casting.{after, cast}
use Rattle.muc_service.specs.Rooms.{Rooms}
use Rattle.roster_laws.specs.Keeping.{AreKept}
use Rattle.house_world.specs.declared.world.World as code
use Rattle.house_world.specs.Hosting.{AreArchived, AreHosted}
use Rattle.house_world.specs.Keeping.{AreShortNames}
use Rattle.house_world.specs.Readiness.{HavePlaces}
use Rattle.house_world.specs.Worlds.{Did, seen}
use Rattle.house_world.proofs.ActLemmas.{act_ends, scene_is, some_kept}
use Rattle.house_world.proofs.CastLemmas.{hosts_by, hosts_same}
use Rattle.house_world.proofs.QuietLemmas.{archived_same}
use Rattle.house_core.proofs.ArchiveLemmas.{archived_by, few_filable}
use Rattle.house_core.proofs.BoundLemmas.{more_ends, on_err}
use Rattle.house_world.proofs.DidLemmas.{did_none}
use Rattle.house_core.proofs.EndsLemmas.{stop_ends}
use Rattle.house_core.proofs.acting.act_at.Goals as goal

pub effects_of-requires-clause-domain : goal.effects_of-requires-clause-domain
effects_of-requires-clause-domain c =
    let same = (c.in-Holds.ensures.passes (some_kept (seen c.args.world.now) c.args.moment) refl refl).1 in
    ap (λ (x : code.World). x.book.domain) same ∙ (c.requires.domain ∙ ap (λ (x : Address). x.domain) (sym c.domain.view_is))

pub effects_of-requires-clause-names : goal.effects_of-requires-clause-names
effects_of-requires-clause-names c =
    let same = (c.in-Holds.ensures.passes (some_kept (seen c.args.world.now) c.args.moment) refl refl).1 in
    subst (λ (x : code.World). AreShortNames x.book.book.asked) (sym same) c.requires.names

pub effects_of-requires-clause-rosters : goal.effects_of-requires-clause-rosters
effects_of-requires-clause-rosters c =
    let same = (c.in-Holds.ensures.passes (some_kept (seen c.args.world.now) c.args.moment) refl refl).1 in
    subst (λ (d : List ℕ). AreKept d c.check.new.world.book.book) (ap (λ (x : Address). x.domain) (sym c.domain.view_is))
    (subst (λ (x : code.World). AreKept c.args.domain.now.domain x.book.book) (sym same) c.requires.rosters)

pub effects_of-requires-clause-hosted : goal.effects_of-requires-clause-hosted
effects_of-requires-clause-hosted c =
    subst (λ (r : Rooms). AreHosted (2 ^ 63 + 2 ^ 62) r) (sym c.check.ensures.rooms) c.requires.hosted

pub effects_of-requires-clause-archived : goal.effects_of-requires-clause-archived
effects_of-requires-clause-archived c =
    subst (λ (a : Archives). AreArchived (2 ^ 63 + 2 ^ 62) a) (sym c.check.ensures.archives) c.requires.archived

pub carry_out-requires-clause-filable : goal.carry_out-requires-clause-filable
carry_out-requires-clause-filable c =
    let made = c.in_ok-cast-in-Holds.cast in
    few_filable made.effects.items c.prepare.new.self.archives (archives_of c.args.world.now.archives)
    (c.prepare.ensures.archives ∙ c.check.ensures.archives) c.requires.archived c.in_ok-cast-in-Holds.ensures.few c.in_ok-cast-in-Holds.ensures.short
    (subst (λ (es : List Effect). HavePlaces es c.prepare.new.self.archives) c.as_slice.ensures.value c.in_ok-prepare-in-Holds.ensures.rows)

pub carry_out-requires-clause-rooms : goal.carry_out-requires-clause-rooms
carry_out-requires-clause-rooms c =
    let made = c.in_ok-cast-in-Holds.cast in
    subst (λ (r : Rooms). unwrap_or made.rooms r ≡ after r made.effects.items)
    (sym (ap (λ (x : World KeptTraffic). x.rooms) c.prepare.ensures.same.world)) c.in_ok-cast-in-Holds.ensures.effects.put

pub returns-in-Stop-clause-hosts : goal.returns-in-Stop-clause-hosts
returns-in-Stop-clause-hosts c = hosts_same c.args.world.now.rooms c.check.new.world.rooms c.check.ensures.rooms

pub returns-in_ok-prepare-in-Holds-clause-hosts : goal.returns-in_ok-prepare-in-Holds-clause-hosts
returns-in_ok-prepare-in-Holds-clause-hosts c =
    let made = c.in_ok-cast-in-Holds.cast in
    hosts_by c.args.world.now.rooms c.check.new.world.rooms c.prepare.new.self.rooms c.carry_out.new.self.rooms made.rooms
    c.check.ensures.rooms (ap (λ (x : World KeptTraffic). x.rooms) c.prepare.ensures.same.world) c.carry_out.ensures.rooms
    c.in_ok-cast-in-Holds.ensures.hosts

pub returns-in-Stop-clause-archives : goal.returns-in-Stop-clause-archives
returns-in-Stop-clause-archives c =
    archived_same (archives_of c.args.world.now.archives) (archives_of c.check.new.world.archives) c.check.ensures.archives

pub returns-in_ok-prepare-in-Holds-clause-archives : goal.returns-in_ok-prepare-in-Holds-clause-archives
returns-in_ok-prepare-in-Holds-clause-archives c =
    archived_by c.in_ok-cast-in-Holds.cast.effects.items (archives_of c.args.world.now.archives) (archives_of c.check.new.world.archives)
    (archives_of c.prepare.new.self.archives) (archives_of c.carry_out.new.self.archives) c.check.ensures.archives c.prepare.ensures.archives
    c.carry_out.ensures.archives c.in_ok-cast-in-Holds.ensures.archives

pub returns-in_default-clause-archives : goal.returns-in_default-clause-archives
returns-in_default-clause-archives c =
    archived_same (archives_of c.args.world.now.archives) (archives_of c.check.new.world.archives) c.check.ensures.archives

pub returns-in_default-clause-hosts : goal.returns-in_default-clause-hosts
returns-in_default-clause-hosts c = hosts_same c.args.world.now.rooms c.check.new.world.rooms c.check.ensures.rooms

pub returns-in_err-cast-in-Holds-clause-refused : goal.returns-in_err-cast-in-Holds-clause-refused
returns-in_err-cast-in-Holds-clause-refused c =
    let same = (c.in-Holds.ensures.passes (some_kept (seen c.args.world.now) c.args.moment) refl refl).1 in
    on_err c.from_residual.result
    (subst (λ (x : code.World). Did [] 0 x c.check.new.world) same (did_none c.check.new.world c.check.ensures.tied))

pub returns-in_err-prepare-in-Holds-clause-refused : goal.returns-in_err-prepare-in-Holds-clause-refused
returns-in_err-prepare-in-Holds-clause-refused c =
    let same = (c.in-Holds.ensures.passes (some_kept (seen c.args.world.now) c.args.moment) refl refl).1 in
    on_err c.from_residual-in_err-prepare-in-Holds.result
    (subst (λ (x : code.World). Did [] 0 x c.prepare.new.self) same c.prepare.ensures.same)

pub carry_out-requires-clause-small : goal.carry_out-requires-clause-small
carry_out-requires-clause-small c =
    c.prepare.ensures.same.few 18446744073709546614 (c.check.ensures.few 18446744073709546614 c.requires.small)

pub returns-in-Stop-clause-done : goal.returns-in-Stop-clause-done
returns-in-Stop-clause-done c = λ k world now at names t.
    let e = Act c.args.w c.args.stanza.now t in
    more_ends (verdict k e) c.in-Stop.reply c.args.world.now c.check.new.world
    (stop_ends k e (gate k e) c.in-Stop.reply c.args.world.now c.check.new.world (c.in-Stop.ensures.passes k world now))

pub returns-in_ok-prepare-in-Holds-clause-done : goal.returns-in_ok-prepare-in-Holds-clause-done
returns-in_ok-prepare-in-Holds-clause-done c = λ k world now at names t.
    let e = Act c.args.w c.args.stanza.now t in
    let s = c.in-Holds.session in
    let passes = c.in-Holds.ensures.passes k world now in
    act_ends k (gate k e) c.in-Holds.conn s t c.args.w c.args.stanza.now c.args.world.now c.check.new.world c.prepare.new.self c.carry_out.new.self
    c.in_ok-cast-in-Holds.cast.effects.items passes.0 passes.1 c.prepare.ensures.same (c.carry_out.ensures.did c.args.stanza.now)
    (c.in_ok-cast-in-Holds.ensures.effects.effects
    ∙ ap (cast c.check.new.world.rooms)
    (scene_is k c.domain.inside.domain c.args.users.now (seen c.check.new.world) c.args.moment s c.args.stanza.now
    (world ∙ ap seen (sym passes.1)) (ap (λ (a : Address). a.domain) (at ∙ sym c.domain.view_is)) names now)
    ∙ ap (λ (x : World KeptTraffic). cast x.rooms (effects k s c.args.stanza.now)) (sym (world ∙ ap seen (sym passes.1))))
