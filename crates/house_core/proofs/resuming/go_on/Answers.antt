use Rattle.std.proofs.Common.{◌≡◌, ℕ, ◌<◌, length, List, [], get_or, Option, Some, sym, ap, refl, subst, ◌∙◌}
use Rattle.std.specs.Option.{option_copied}
use Rattle.sm_resume.specs.declared.id.ResumeId.{ResumeId}
use Rattle.session_table.specs.Tables.{line_of}
use Rattle.house_model.specs.declared.event.Event.TheVariants.{Resume}
use Rattle.house_model.specs.Gate.{gate}
use Rattle.house_model.specs.Steps.{verdict}
use Rattle.jid_core.specs.Addresses.{Address}
use Rattle.house_world.specs.Worlds.{Ends}
use Rattle.house_world.proofs.ReadLemmas.{read_there}
use Rattle.house_world.specs.declared.world.World as code
use Rattle.house_core.proofs.TakeLemmas.{resume_ends, some_kept}
use Rattle.house_core.proofs.resuming.go_on.Goals as goal

pub bounds-parts-user : goal.bounds-parts-user
bounds-parts-user c =
    let k = some_kept c.args.domain.now c.args.users.now c.args.moment c.args.world.now in
    let passes = c.in-Knows.ensures.passes k refl refl in
    subst (λ (us : List (List ℕ)). c.in-Knows.user < length us) (sym c.parts.ensures)
    (c.requires.users c.args.w c.in-Knows.conn c.in-Knows.user
    (ap (λ (z : code.World). line_of c.args.w z.table) (sym passes.1) ∙ c.in-Knows.ensures.found.0))

pub take_up-requires-clause-small : goal.take_up-requires-clause-small
take_up-requires-clause-small c = c.check.ensures.few 18446744073709551614 c.requires.small

pub returns-in-Some : goal.returns-in-Some
returns-in-Some c = λ k world now users domain t.
    let a = c.args.world.now in
    let b = c.check.new.world in
    let d = c.take_up.new.world in
    let u = c.in-Knows.user in
    let id = c.in-Some.id.now in
    let passes = c.in-Knows.ensures.passes k world now in
    let low = c.requires.users c.args.w c.in-Knows.conn u
    (ap (λ (z : code.World). line_of c.args.w z.table) (sym passes.1) ∙ c.in-Knows.ensures.found.0) in
    let found = c.index-parts-user.result in
    let user : found ≡ get_or k.head.users u [] =
    c.index-parts-user.is ∙ (ap (λ (us : List (List ℕ)). get_or us u found) c.parts.ensures ∙ (read_there c.args.users.now u found [] low
    ∙ ap (λ (us : List (List ℕ)). get_or us u []) (sym users))) in
    subst (λ (o : Option ResumeId). Ends (verdict k (Resume c.args.w o c.args.h t)) 0 c.take_up.result a d) (sym (ap option_copied c.in-Some.is))
    (resume_ends k (gate k (Resume c.args.w (Some id) c.args.h t)) c.args.w c.in-Knows.conn u c.args.h t id found c.args.domain.now.domain
    c.take_up.result a b d world passes.0 passes.1 user (sym (ap (λ (x : Address). x.domain) domain)) c.take_up.ensures)
