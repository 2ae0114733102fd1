-- The room in queues, and what effects need of it.
use Rattle.std.proofs.Common.{◌≡◌, ◌⊎◌, inl, inr, ℕ, zero, suc, ◌+◌, ◌-◌, ◌<◌, ◌≤◌, ◌^◌, ◌==◌, Bool, true, false, List, [], ◌∷◌, ◌++◌}
use Rattle.std.proofs.Common.{drop, get_or, length, map, Option, Some, None, refl, sym, ap, subst, ◌∙◌, arith}
use Rattle.std.specs.Prelude.{OnOk, IfSome, Result, bytes_eq, if◌then◌else◌}
use Rattle.std.specs.List.{filter, AllByRecursion}
use Rattle.std.specs.Option.{option_map}
use Rattle.std.proofs.lemmas.Bool.{eq-eqb}
use Rattle.std.proofs.lemmas.Bool.Decides.{eqb_tells}
use Rattle.std.proofs.lemmas.List.{drop_more, length-append}
use Rattle.std.proofs.lemmas.Option.{same_Some}
use Rattle.stanza_tree.specs.declared.frame.Entry.{Entry}
use Rattle.stanza_tree.specs.declared.frame.Origin.{Origin}
use Rattle.stanza_model.specs.declared.condition.Condition.TheVariants.{BadRequest}
use Rattle.stanza_model.specs.declared.effect.Effect.{Effect}
use Rattle.stanza_model.specs.declared.effect.Effect.TheVariants.{Queue}
use Rattle.stanza_model.specs.declared.kinds.Kind.TheVariants.{Message}
use Rattle.stanza_model.specs.declared.stanza.Stanza.{Stanza}
use Rattle.stanza_model.specs.declared.stanza.Stanza.TheVariants.{Faulty}
use Rattle.sm_queue.specs.Queues.{pushed, spare}
use Rattle.sm_resume.specs.declared.decision.Cause.{Cause}
use Rattle.session_table.specs.declared.life.Life.TheVariants.{Live}
use Rattle.session_table.specs.Sessions.{SessionRecord, ended}
use Rattle.session_table.specs.Tables.{TableRecord, changed, line_ended, session_of, with_session}
use Rattle.jid_core.specs.Addresses.{local_text, resource_text}
use Rattle.archive_table.specs.Tables.{archives_of}
use Rattle.contact_table.specs.Books.{Pair, bare_of, firsts_of}
use Rattle.house_model.specs.Fitting.{AreShortAddresses, AreShortRooms, IsShortAddress, IsShortScene}
use Rattle.house_world.specs.Hosting.{AreArchived, but_rooms, but_rooms_of}
use Rattle.house_world.specs.declared.world.World as code
use Rattle.house_world.specs.Readiness.{AreReady, needed, needed_by}
use Rattle.house_world.specs.Views.{session_by}
use Rattle.roster_laws.specs.Keeping.{AreKept}
use Rattle.house_world.specs.Keeping.{AreShortNames}
use Rattle.house_world.specs.Wholes.{HasSpare, IsHeldBy, IsTied}
use Rattle.house_world.specs.Worlds.{Did, seen}
use Rattle.house_world.proofs.ActLemmas.{on_ok}
use Rattle.house_world.proofs.DidLemmas.{did_then}
use Rattle.house_world.proofs.OffLemmas.{there}
use Rattle.house_world.proofs.TiedLemmas.{changed_here, changed_is}

-- all that is kept is short
pub addresses_short : (a : code.World) → IsTied a.table → AreShortAddresses (seen a)
addresses_short a tied s = by (session_of s a.table) (λ x at. (tied.each s x at).address)
  where
    by : (o : Option SessionRecord) → ((x : SessionRecord) → o ≡ Some x → IsShortAddress x.address)
        → IsShortAddress (session_by a.table.lines o).rest.address
    by None each = omega arith
    by (Some x) each = each x refl

bare_short : (domain name : List ℕ) → length domain ≤ 1023 → length name ≤ 1023 → IsShortAddress (bare_of domain name)
bare_short domain name small short =
    omega (
      arith,
      small,
      short,
      length-append (local_text (Some name) ++ domain) (resource_text None),
      length-append (local_text (Some name)) domain,
      length-append name (64 ∷ []),
    )

asking_short : (domain own : List ℕ) (ps : List Pair) → length domain ≤ 1023 → AreShortNames ps
    → AllByRecursion IsShortAddress (map (bare_of domain) (firsts_of own ps))
asking_short domain own [] small short = tt
asking_short domain own (p ∷ ps) small short = by (bytes_eq p.b own) (asking_short domain own ps small short.1)
  where
    by : (b : Bool) → AllByRecursion IsShortAddress (map (bare_of domain) (firsts_of own ps))
        → AllByRecursion IsShortAddress
        (map (bare_of domain) (map (λ q. q.a) (if b then p ∷ filter (λ q. bytes_eq q.b own) ps else filter (λ q. bytes_eq q.b own) ps)))
    by true rest = (bare_short domain p.a small short.0, rest)
    by false rest = rest

pub scene_short : (a : code.World) (domain : List ℕ) (users : List (List ℕ)) (moment : ℕ) → IsTied a.table → length domain ≤ 1023
    → AreShortNames a.book.book.asked → AreKept domain a.book.book → AreShortRooms a.rooms
    → AreArchived (2 ^ 63 + 2 ^ 62) (archives_of a.archives)
    → IsShortScene (record { domain = domain; users = users; world = seen a; moment = moment })
scene_short a domain users moment tied small names kept rooms archived = record {
  domain = small;
  addresses = addresses_short a tied;
  asking = λ own. asking_short domain own a.book.book.asked small names;
  presences = λ s. presence_by (session_of s a.table) (λ x at. (tied.each s x at).shown);
  rosters = λ own. (kept own).small;
  pushes = λ s. pushes_by (session_of s a.table) (λ x at. (tied.each s x at).pushes);
  rooms = rooms;
  archives = archived.short;
  numbers = archived.numbered;
  rows = record {
    users = λ user. (let most = archived.rows.users user in omega (arith, most));
    rooms = λ n. (let most = archived.rows.rooms n in omega (arith, most));
  };
}
  where
    pushes_by : (o : Option SessionRecord) → ((x : SessionRecord) → o ≡ Some x → x.pushes < 2 ^ 64)
        → (session_by a.table.lines o).rest.manner.pushes < 2 ^ 64
    pushes_by None each = omega arith
    pushes_by (Some x) each = each x refl

    presence_by : (o : Option SessionRecord) → ((x : SessionRecord) → o ≡ Some x → IfSome x.presence (λ p. length p ≤ 16384))
        → IfSome (session_by a.table.lines o).rest.manner.presence (λ p. length p ≤ 16384)
    presence_by None each = tt
    presence_by (Some x) each = each x refl

-- there is room for less
pub spare_less : (n k r : ℕ) (t : TableRecord) → HasSpare n r t → HasSpare (n - k) r t
spare_less n k r t has = λ x at. (let old = has x at in omega (arith, old))

-- the room of each session, where one of them changes and keeps enough
pub spare_changed : (s n m r : ℕ) (f : SessionRecord → SessionRecord) (t : TableRecord) (x : SessionRecord)
    → session_of s t ≡ Some x → m ≤ n → (r ≡ s → n ≤ spare x.queue → m ≤ spare (f x).queue)
    → HasSpare n r t → HasSpare m r (changed s f t)
spare_changed s n m r f t x at less kept has z is =
    elim (changed_is s r f t z is) [
      | inl p ↦
          subst (λ (u : SessionRecord). m ≤ spare u.queue) (same_Some (f x) z (ap (option_map f) (sym at) ∙ p.1))
          (kept p.0 (has x (ap (λ (k : ℕ). session_of k t) p.0 ∙ at)))
      | inr p ↦ (let old = has z p.1 in omega (arith, less, old))
    ]

-- a stanza of its client was acted on
pub spare_acted : (s n r : ℕ) (t : TableRecord) (x y : SessionRecord) → session_of s t ≡ Some x
    → y ≡ record x { acted = x.acted + 1 } → HasSpare n r t → HasSpare n r (with_session s t y)
spare_acted s n r t x y at is has =
    spare_changed s n n r (λ _. y) t x at (omega arith)
    (λ _ had. subst (λ (u : SessionRecord). n ≤ spare u.queue) (sym is) had) has

-- it ends, with its queue as it is
pub spare_ended : (s n r : ℕ) (cause : Cause) (t : TableRecord) (x : SessionRecord) → session_of s t ≡ Some x
    → HasSpare n r t → HasSpare n r (changed s (ended cause) t)
spare_ended s n r cause t x at has = spare_changed s n n r (ended cause) t x at (omega arith) (λ _ had. had) has

-- it ends, and so does the connection at its line
pub spare_closed : (w s n r : ℕ) (cause : Cause) (t : TableRecord) → IsHeldBy w s t
    → HasSpare n r t → HasSpare n r (line_ended w cause (changed s (ended cause) t))
spare_closed w s n r cause t held has =
    let him = there (λ (x : SessionRecord). (x.state ≡ Live) × (x.holder ≡ Some w)) (session_of s t) held in
    spare_ended s n r cause t him.0 him.1 has

-- its queue is given more room
pub spare_roomy : (s n r : ℕ) (t : TableRecord) (x y : SessionRecord) → session_of s t ≡ Some x
    → x.queue.room ≤ y.queue.room → y ≡ record x { queue = record x.queue { room = y.queue.room } }
    → HasSpare n r t → HasSpare n r (with_session s t y)
spare_roomy s n r t x y at more is has =
    spare_changed s n n r (λ _. y) t x at (omega arith)
    (λ _ had.
    let waits : length y.queue.waiting ≡ length x.queue.waiting =
    ap (λ (u : SessionRecord). length u.queue.waiting) is in
    omega (arith, more, waits, had))
    has

-- an entry more waits in it
pub spare_pushed : (s n r : ℕ) (t : TableRecord) (x y : SessionRecord) (e : Entry) → session_of s t ≡ Some x
    → y ≡ record x { queue = pushed e x.queue }
    → HasSpare n r t → HasSpare (n - (if r == s then 1 else 0)) r (with_session s t y)
spare_pushed s n r t x y e at is has =
    spare_changed s n (n - (if r == s then 1 else 0)) r (λ _. y) t x at (omega arith)
    (λ same had.
    let one : ◌≡◌ {A = ℕ} (if r == s then 1 else 0) 1 =
    ap (λ (b : Bool). if b then 1 else 0) (eq-eqb r s same) in
    let waits : length y.queue.waiting ≡ length x.queue.waiting + 1 =
    ap (λ (u : SessionRecord). length u.queue.waiting) is ∙ length-append x.queue.waiting (e ∷ []) in
    let room : y.queue.room ≡ x.queue.room = ap (λ (u : SessionRecord). u.queue.room) is in
    omega (arith, one, waits, room, had))
    has

-- room that was taken in the queue of a session
pub spare_here : (s n : ℕ) (t : TableRecord) (x y : SessionRecord) → session_of s t ≡ Some x → n ≤ spare y.queue
    → HasSpare n s (with_session s t y)
spare_here s n t x y at has z is =
    subst (λ (u : SessionRecord). n ≤ spare u.queue)
    (same_Some y z (sym (changed_here s (λ _. y) t x at) ∙ is)) has

-- a session for which an effect queues has room for one stanza more
pub spare_for : (e : Effect) (s : ℕ) (to rest : List ℕ) (origin : Origin) (t : TableRecord) (x : SessionRecord)
    → e ≡ Queue s to rest origin → ((r : ℕ) → HasSpare (needed_by r e) r t)
    → session_of s t ≡ Some x → 0 < spare x.queue
spare_for e s to rest origin t x is ready at =
    let one : ◌≡◌ {A = ℕ} (needed_by s e) 1 =
    ap (needed_by s) is ∙ ap (λ (b : Bool). if b then 1 else 0) (eq-eqb s s refl) in
    let has = ready s x at in
    omega (arith, one, has)

-- the session of an effect has all the room that effects need
pub room_for : {A E : Type 0} (result : Result A E) (e : Effect) (r : ℕ) (to rest : List ℕ) (origin : Origin) (n : ℕ)
    (all : List Effect) (t : TableRecord) → e ≡ Queue r to rest origin → n ≡ needed r all → OnOk result (HasSpare n r t)
    → OnOk result ((s : ℕ) → 0 < needed_by s e → HasSpare (needed s all) s t)
room_for result e r to rest origin n all t is count has =
    on_ok result (λ room s some. elim (eqb_tells s r) [
      | inl p ↦
          subst (λ (k : ℕ). HasSpare (needed k all) k t) (sym p.1)
          (subst (λ (m : ℕ). HasSpare m r t) count room)
      | inr p ↦
          let none : ◌≡◌ {A = ℕ} (needed_by s e) 0 =
          ap (needed_by s) is ∙ ap (λ (b : Bool). if b then 1 else 0) p.0 in
          absurd (omega (arith, none, some))
    ]) has

-- an effect queues something for a session, or nothing
some_or_none : (n : ℕ) → (0 < n) ⊎ (n ≡ 0)
some_or_none zero = inr refl
some_or_none (suc n) = inl (omega arith)

-- an effect more has room, and each one before it still has
pub ready_step : (all : List Effect) (i : ℕ) (e d : Effect) (old new : TableRecord) → i < length all → e ≡ get_or all i d
    → ((s : ℕ) → 0 < needed_by s e → HasSpare (needed s all) s new)
    → ((n r : ℕ) → HasSpare n r old → HasSpare n r new)
    → ((s : ℕ) → needed s (drop i all) < needed s all → HasSpare (needed s all) s old)
    → (s : ℕ) → needed s (drop (i + 1) all) < needed s all → HasSpare (needed s all) s new
ready_step all i e d old new low is taken keeps before s less =
    let first : needed s (drop i all) ≡ needed_by s e + needed s (drop (i + 1) all) =
    ap (needed s) (drop_more all i d low)
    ∙ ap (λ (x : Effect). needed_by s x + needed s (drop (i + 1) all)) (sym is) in
    elim (some_or_none (needed_by s e)) [
      | inl some ↦ taken s some
      | inr none ↦ keeps (needed s all) s (before s (omega (arith, first, none, less)))
    ]

-- the first effect's part of the room
pub ready_first : (e : Effect) (more : List Effect) (t : TableRecord) → AreReady (e ∷ more) t
    → (s : ℕ) → HasSpare (needed_by s e) s t
ready_first e more t ready = λ s x at. (let all = ready s x at in omega (arith, all))

-- the room of the effects after it is left
pub ready_rest : (e : Effect) (more : List Effect) (old new : TableRecord) → AreReady (e ∷ more) old
    → ((n s : ℕ) → HasSpare n s old → HasSpare (n - needed_by s e) s new) → AreReady more new
ready_rest e more old new ready left = λ s x at.
    (let now = left (needed s (e ∷ more)) s (ready s) x at in omega (arith, now))

-- an effect was applied, and those after it go on from there
pub applied_first : (e : Effect) (more all : List Effect) (a b c : code.World) → all ≡ e ∷ more
    → Did (but_rooms_of e) 0 a b → Did (but_rooms more) 0 b c → Did (but_rooms all) 0 a c
applied_first e more all a b c is one rest =
    subst (λ (es : List Effect). Did (but_rooms es) 0 a c) (sym is)
    (did_then (but_rooms_of e) (but_rooms more) 0 0 a b c one rest)

-- any stanza, where it does not matter which
abbrev pub some_stanza : Stanza
some_stanza = Faulty Message None None false BadRequest
