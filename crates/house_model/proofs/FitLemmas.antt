-- Lists of effects that fit.
use Rattle.std.proofs.Common.{◌≡◌, inl, inr, ℕ, ◌+◌, List, [], ◌∷◌, ◌++◌, map, Option, Some, None, Bool, true, false, refl, sym, ap, ◌∙◌, subst}
use Rattle.std.specs.Prelude.{⊤}
use Rattle.stanza_model.specs.declared.effect.Effect as stanza
use Rattle.stanza_model.specs.declared.effect.Effect.TheVariants.{Queue, Set}
use Rattle.stanza_model.specs.declared.effect.Effect.TheVariants as effect
use Rattle.stanza_model.specs.declared.effect.Change.TheVariants as change
use Rattle.sm_resume.specs.declared.decision.Cause.{Cause}
use Rattle.sm_resume.specs.declared.decision.Cause.TheVariants.{Replaced}
use Rattle.sm_resume.specs.declared.id.ResumeId.{ResumeId}
use Rattle.session_table.specs.declared.line.Line as stage
use Rattle.session_table.specs.declared.line.Line.TheVariants.{Empty, Fresh, Logged, Bound, Over}
use Rattle.muc_service.specs.Casting.{cast}
use Rattle.house_model.specs.Numbered.{put}
use Rattle.house_model.specs.Sessions.{Hold, Held, Rest, Op, Push, Pull, Request, Enable, Ack, Tell, Act, Drop}
use Rattle.house_model.specs.Sessions.{Resume, End, Part, Marks, step_if, session_step, Ways}
use Rattle.house_model.specs.Traffic.{KeptTraffic, Traffic, whole}
use Rattle.house_model.specs.States.{Line, World, Kept}
use Rattle.house_model.specs.Effects.{Effect, Open, At, Begin, On, Note, Hosts, Files, Leave, settled, touch, apply, apply_all}
use Rattle.house_model.specs.Gate.{left_by, left, closed}
use Rattle.house_model.specs.Routing.{departure}
use Rattle.house_model.specs.Steps.{departs, effect_of, replaces, leaves}
use Rattle.house_model.specs.Sound.{Sound, IsFree, FitsIn, Fits, Back}
use Rattle.house_model.proofs.PutLemmas.{put_here}
use Rattle.house_model.proofs.SoundLemmas.{settled_is, apply_sound}
use Rattle.house_model.proofs.BackLemmas.{IsResume, held_before, apply_back}

-- a bound line holds its session, and a session that a line holds is bound there
pub record IsMatched (world : World Traffic) : Type 0 where
  pub sound : Sound world
  pub back : Back world

-- an operation by which no line comes to hold the session
abbrev pub IsNoResume : Op → Type 0
IsNoResume (Resume w c h) = ⊥
IsNoResume op = ⊤

-- effects on sessions alone, by which no line comes to hold one
abbrev pub AllOn : List Effect → Type 0
AllOn [] = ⊤
AllOn (On s op ∷ es) = IsNoResume op × AllOn es
AllOn (Note change ∷ es) = AllOn es
AllOn (Hosts x ∷ es) = AllOn es
AllOn (Files filing ∷ es) = AllOn es
AllOn (e ∷ es) = ⊥

on_fits : (world : World Traffic) (s : ℕ) (op : Op) → IsNoResume op → FitsIn world (On s op)
on_fits world s (Push e) is = tt
on_fits world s Pull is = tt
on_fits world s Request is = tt
on_fits world s (Enable id) is = tt
on_fits world s (Ack h) is = tt
on_fits world s Tell is = tt
on_fits world s (Act x) is = tt
on_fits world s (Drop t) is = tt
on_fits world s (Resume w c h) is = absurd is
on_fits world s (End cause) is = tt
on_fits world s Part is = tt
on_fits world s (Marks mark) is = tt

no_resume : (op : Op) (w c : ℕ) → IsNoResume op → IsResume op w c → ⊥
no_resume (Resume v d h) w c is r = is
no_resume (Push e) w c is r = r
no_resume Pull w c is r = r
no_resume Request w c is r = r
no_resume (Enable id) w c is r = r
no_resume (Ack h) w c is r = r
no_resume Tell w c is r = r
no_resume (Act x) w c is r = r
no_resume (Drop t) w c is r = r
no_resume (End cause) w c is r = r
no_resume Part w c is r = r
no_resume (Marks mark) w c is r = r

-- a line that was free stays free
free_on : (world : World Traffic) (s : ℕ) (op : Op) (w : ℕ) → IsMatched world → IsNoResume op
    → IsFree (world.lines w).stage → IsFree ((touch whole s op world).lines w).stage
free_on world s op w m is free c k at =
    elim (settled_is s (world.sessions s).hold (session_step whole (world.sessions s) op).hold world.lines w c k
    (λ v d e. m.sound.tied v d s e) at) [
      | inl p ↦ elim (held_before _ (world.sessions s).hold _ _ op w c p.1) [
        | inl e ↦ free c s (m.back s w c e)
        | inr r ↦ no_resume op w c is r
      ]
      | inr p ↦ free c k p.1
    ]

pub matched_on : (world : World Traffic) (e : Effect) → FitsIn world e → IsMatched world
    → IsMatched (apply whole world e)
matched_on world e fits m = record { sound = apply_sound world e m.sound; back = apply_back world e fits m.back }

pub all_on_fit : (world : World Traffic) (es : List Effect) → AllOn es → Fits world es
all_on_fit world [] all = tt
all_on_fit world (On s op ∷ es) all = (on_fits world s op all.0, all_on_fit (apply whole world (On s op)) es all.1)
all_on_fit world (Note change ∷ es) all = (tt, all_on_fit (apply whole world (Note change)) es all)
all_on_fit world (Hosts x ∷ es) all = (tt, all_on_fit (apply whole world (Hosts x)) es all)
all_on_fit world (Files filing ∷ es) all = (tt, all_on_fit (apply whole world (Files filing)) es all)
all_on_fit world (Open v ∷ es) all = absurd all
all_on_fit world (At v op ∷ es) all = absurd all
all_on_fit world (Begin v c a ∷ es) all = absurd all

pub free_all : (world : World Traffic) (es : List Effect) (w : ℕ) → AllOn es → IsMatched world
    → IsFree (world.lines w).stage → IsFree ((apply_all whole world es).lines w).stage
free_all world [] w all m free = free
free_all world (On s op ∷ es) w all m free =
    free_all (apply whole world (On s op)) es w all.1 (matched_on world (On s op) (on_fits world s op all.0) m)
    (free_on world s op w m all.0 free)
free_all world (Note change ∷ es) w all m free =
    free_all (apply whole world (Note change)) es w all (matched_on world (Note change) tt m) free
free_all world (Hosts x ∷ es) w all m free =
    free_all (apply whole world (Hosts x)) es w all (matched_on world (Hosts x) tt m) free
free_all world (Files filing ∷ es) w all m free =
    free_all (apply whole world (Files filing)) es w all (matched_on world (Files filing) tt m) free
free_all world (Open v ∷ es) w all m free = absurd all
free_all world (At v op ∷ es) w all m free = absurd all
free_all world (Begin v c a ∷ es) w all m free = absurd all

pub fits_append : (world : World Traffic) (xs ys : List Effect) → Fits world xs → Fits (apply_all whole world xs) ys
    → Fits world (xs ++ ys)
fits_append world [] ys a b = b
fits_append world (x ∷ xs) ys a b = (a.0, fits_append (apply whole world x) xs ys a.1 b)

pub queued_on : (es : List stanza.Effect) → AllOn (map effect_of es)
queued_on [] = tt
queued_on (Queue s to rest origin ∷ more) = (tt, queued_on more)
queued_on (Set (change.WantsRoster s) ∷ more) = (tt, queued_on more)
queued_on (Set (change.Pushed s pushes) ∷ more) = (tt, queued_on more)
queued_on (Set (change.Contact user address name groups) ∷ more) = queued_on more
queued_on (Set (change.NoContact user address) ∷ more) = queued_on more
queued_on (Set (change.Sees a b now) ∷ more) = queued_on more
queued_on (Set (change.Asked a b now) ∷ more) = queued_on more
queued_on (Set (change.Available s stanza priority) ∷ more) = (tt, queued_on more)
queued_on (Set (change.Unavailable s) ∷ more) = (tt, queued_on more)
queued_on (Set (change.Directed s addresses) ∷ more) = (tt, queued_on more)
queued_on (effect.Broadcast n item ∷ more) = queued_on more
queued_on (effect.Enter n s address nick role ∷ more) = queued_on more
queued_on (effect.Leave n s ∷ more) = queued_on more
queued_on (effect.Keep user peer text moment ∷ more) = queued_on more
queued_on (Set (change.RoomMade n address owner) ∷ more) = queued_on more
queued_on (Set (change.RoomGone n) ∷ more) = queued_on more
queued_on (Set (change.Unlocked n) ∷ more) = queued_on more
queued_on (Set (change.Configured n config) ∷ more) = queued_on more
queued_on (Set (change.Affiliated n address a) ∷ more) = queued_on more
queued_on (Set (change.RoleSet n s role) ∷ more) = queued_on more
queued_on (Set (change.Renamed n s nick) ∷ more) = queued_on more
queued_on (Set (change.OccupantShown n s presence) ∷ more) = queued_on more
queued_on (Set (change.Subject n text stamp) ∷ more) = queued_on more
queued_on (Set (change.RoomRow n peer text moment) ∷ more) = queued_on more

on_append : (xs ys : List Effect) → AllOn xs → AllOn ys → AllOn (xs ++ ys)
on_append [] ys a b = b
on_append (On s op ∷ xs) ys a b = (a.0, on_append xs ys a.1 b)
on_append (Note change ∷ xs) ys a b = on_append xs ys a b
on_append (Hosts x ∷ xs) ys a b = on_append xs ys a b
on_append (Files filing ∷ xs) ys a b = on_append xs ys a b
on_append (Open v ∷ xs) ys a b = absurd a
on_append (At v op ∷ xs) ys a b = absurd a
on_append (Begin v c x ∷ xs) ys a b = absurd a

-- they make no session
pub on_made : {T : Type 0} (z : Ways T) (world : World T) (es : List Effect) → AllOn es → (apply_all z world es).made ≡ world.made
on_made z world [] all = refl
on_made z world (On s op ∷ es) all = on_made z (apply z world (On s op)) es all.1
on_made z world (Note change ∷ es) all = on_made z (apply z world (Note change)) es all
on_made z world (Hosts x ∷ es) all = on_made z (apply z world (Hosts x)) es all
on_made z world (Files filing ∷ es) all = on_made z (apply z world (Files filing)) es all
on_made z world (Open v ∷ es) all = absurd all
on_made z world (At v op ∷ es) all = absurd all
on_made z world (Begin v c a ∷ es) all = absurd all

pub departs_on : (k : World KeptTraffic) (s : ℕ) (cause : Cause) → AllOn (departs k s cause)
departs_on k s cause = (tt, on_append (map effect_of (cast k.rooms (departure k s))) (On s Part ∷ []) (queued_on (cast k.rooms (departure k s))) (tt, tt))

pub replaces_on : (k : Kept) (s : Option ℕ) → AllOn (replaces k s)
replaces_on k None = tt
replaces_on k (Some s) = departs_on k.world s (Replaced (k.world.made + 1))

-- an operation by which the line that holds the session lets it go
abbrev LetsGo : Op → Type 0
LetsGo (Drop t) = ⊤
LetsGo (End cause) = ⊤
LetsGo op = ⊥

let_go : (b : Bool) (m : Hold) (t : Traffic) (r : Rest) (op : Op) (w c s : ℕ) (ls : ℕ → Line) → m ≡ Held w c → LetsGo op
    → IsFree (settled s m (step_if whole b m t r op).hold ls w).stage
let_go b m t r op w c s ls is goes =
    subst (λ (n : Hold). IsFree (settled s n (step_if whole b n t r op).hold ls w).stage) (sym is) (held_go b op goes)
  where
    written : (y : Line) → IsFree y.stage → IsFree (put w y ls w).stage
    written y free d k at = free d k (ap (λ (l : Line). l.stage) (sym (put_here w y ls)) ∙ at)

    held_go : (b : Bool) (op : Op) → LetsGo op
        → IsFree (settled s (Held w c) (step_if whole b (Held w c) t r op).hold ls w).stage
    held_go true (Drop u) goes = written _ (λ d k bad. cc)
    held_go false (Drop u) goes = written _ (λ d k bad. cc)
    held_go true (End cause) goes = written _ (λ d k bad. cc)
    held_go false (End cause) goes = written _ (λ d k bad. cc)
    held_go true op goes = absurd goes
    held_go false op goes = absurd goes

-- an effect that needs no more than that line w is free
abbrev pub NeedsFree : ℕ → Effect → Type 0
NeedsFree w e = (world : World Traffic) → IsFree (world.lines w).stage → FitsIn world e

go_fits : (world : World Traffic) (w c s : ℕ) (op : Op) (e : Effect) → IsMatched world
    → (world.lines w).stage ≡ Bound c s → LetsGo op → FitsIn world (On s op)
    → NeedsFree w e → Fits world (On s op ∷ e ∷ [])
go_fits world w c s op e m is goes fits needs = (fits, (needs (apply whole world (On s op)) free, tt))
  where
    free : IsFree ((touch whole s op world).lines w).stage
    free = let_go (world.sessions s).counts (world.sessions s).hold (world.sessions s).traffic (world.sessions s).rest
        op w c s world.lines
        (m.sound.tied w c s is) goes

left_goes : (id : Option ResumeId) (t : ℕ) → LetsGo (left_by id t)
left_goes None t = tt
left_goes (Some id) t = tt

left_by_fits : (world : World Traffic) (id : Option ResumeId) (s t : ℕ) → FitsIn world (On s (left_by id t))
left_by_fits world None s t = tt
left_by_fits world (Some id) s t = tt

pub left_fits : (world : World Traffic) (k : Kept) (w : ℕ) (g : stage.Line) (e : Effect) → IsMatched world
    → (world.lines w).stage ≡ g → NeedsFree w e
    → Fits world (left k g ++ e ∷ [])
left_fits world k w (Bound c s) e m is needs =
    go_fits world w c s (left_by (k.world.sessions s).rest.resume_id k.head.moment) e m is
    (left_goes (k.world.sessions s).rest.resume_id k.head.moment)
    (left_by_fits world (k.world.sessions s).rest.resume_id s k.head.moment) needs
left_fits world k w Empty e m is needs =
    (needs world (λ c s bad. (let both : Empty ≡ Bound c s = sym is ∙ bad in cc)), tt)
left_fits world k w (Fresh d) e m is needs =
    (needs world (λ c s bad. (let both : Fresh d ≡ Bound c s = sym is ∙ bad in cc)), tt)
left_fits world k w (Logged d u) e m is needs =
    (needs world (λ c s bad. (let both : Logged d u ≡ Bound c s = sym is ∙ bad in cc)), tt)
left_fits world k w (Over d cause) e m is needs =
    (needs world (λ c s bad. (let both : Over d cause ≡ Bound c s = sym is ∙ bad in cc)), tt)

pub closed_fits : (world : World Traffic) (w : ℕ) (g : stage.Line) (e : Effect) → IsMatched world
    → (world.lines w).stage ≡ g → NeedsFree w e
    → Fits world (closed g ++ e ∷ [])
closed_fits world w (Bound c s) e m is needs = go_fits world w c s _ e m is tt tt needs
closed_fits world w Empty e m is needs =
    (needs world (λ c s bad. (let both : Empty ≡ Bound c s = sym is ∙ bad in cc)), tt)
closed_fits world w (Fresh d) e m is needs =
    (needs world (λ c s bad. (let both : Fresh d ≡ Bound c s = sym is ∙ bad in cc)), tt)
closed_fits world w (Logged d u) e m is needs =
    (needs world (λ c s bad. (let both : Logged d u ≡ Bound c s = sym is ∙ bad in cc)), tt)
closed_fits world w (Over d cause) e m is needs =
    (needs world (λ c s bad. (let both : Over d cause ≡ Bound c s = sym is ∙ bad in cc)), tt)

pub leaves_fits : (world : World Traffic) (w : ℕ) (g : stage.Line) (es : List Effect)
    → Fits world (es ++ At w Leave ∷ []) → Fits world (leaves g w es).effects
leaves_fits world w Empty es fits = tt
leaves_fits world w (Fresh c) es fits = fits
leaves_fits world w (Logged c u) es fits = fits
leaves_fits world w (Bound c s) es fits = fits
leaves_fits world w (Over c cause) es fits = fits

pub logged_free : (g : stage.Line) (d u : ℕ) → g ≡ Logged d u → IsFree g
logged_free g d u is c s bad = let both : Logged d u ≡ Bound c s = sym is ∙ bad in absurd (cc)
