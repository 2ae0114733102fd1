-- A binding, as its event's verdict.
use Rattle.std.specs.Prelude.{OnErr, slice_index_or}
use Rattle.std.specs.List.{list_all}
use Rattle.std.proofs.lemmas.List.Folds.{list_all_at}
use Rattle.std.proofs.Common.{◌≡◌, ◌⊎◌, inl, inr, ℕ, ◌+◌, ◌<◌, ◌≤◌, Bool, true, false, List, [], ◌∷◌, ◌++◌, length, get_or}
use Rattle.std.proofs.Common.{Option, Some, None, Result, Ok, Err, refl, sym, ap, subst, ◌∙◌, arith}
use Rattle.std.proofs.lemmas.Grind.{common_steps}
use Rattle.jid_core.specs.Addresses.{Address, address_text}
use Rattle.session_table.specs.declared.line.Line as stage
use Rattle.session_table.specs.declared.line.Line.TheVariants.{Empty, Fresh, Logged, Bound, Over}
use Rattle.session_table.specs.Tables.{Rises, TableRecord, conn_of, is_logged, line_of, number_at}
use Rattle.stanza_tree.proofs.Bounds.{length-value_text-le, length-words_text-le}
use Rattle.archive_table.specs.Tables.{archives_of}
use Rattle.house_model.specs.declared.answer.Answer.{Answer}
use Rattle.house_model.specs.declared.answer.Answer.TheVariants as answer
use Rattle.house_model.specs.declared.reply.Reply.TheVariants as reply
use Rattle.house_model.specs.declared.limits.Limits.{Limits}
use Rattle.house_model.specs.Answers.{answer_text}
use Rattle.house_model.specs.Effects.{Effect, At, Begin, Say}
use Rattle.house_model.specs.States.{Kept, World}
use Rattle.house_model.specs.Traffic.{KeptTraffic}
use Rattle.house_model.specs.Lookups.{session_at, session_in}
use Rattle.house_model.specs.Steps.{binds, body, bound_address, has_place, replaces, resource_or}
use Rattle.house_model.specs.Gate as model
use Rattle.house_model.specs.Gate.{Verdict}
use Rattle.house_model.specs.Histories.{passed}
use Rattle.house_model.specs.declared.event.Event.TheVariants as event
use Rattle.house_model.specs.declared.reply.Reply.{Reply}
use Rattle.house_world.specs.declared.world.World as code
use Rattle.house_core.specs.declared.gate.Pass as pass
use Rattle.house_core.specs.Gates.{Passes}
use Rattle.house_core.specs.Bindings.{begun_in, replaced_by, replaced_in}
use Rattle.house_core.specs.Houses.{held}
use Rattle.house_world.specs.Hosting.{Archived, Hosts}
use Rattle.house_world.specs.Wholes.{IsTied, IsFew}
use Rattle.house_world.specs.Worlds.{Did, Ends, KeepsLogged, seen}
use Rattle.house_core.proofs.CallLemmas.{house}
use Rattle.house_world.proofs.CastLemmas.{hosts_same}
use Rattle.house_world.proofs.QuietLemmas.{archived_same}
use Rattle.house_world.proofs.DidLemmas.{did_none, did_then}
use Rattle.house_core.proofs.EndsLemmas.{ends_by}
use Rattle.house_world.proofs.ActLemmas.{some_kept}
use Rattle.house_world.proofs.AtLemmas.{at_is}
use Rattle.house_world.proofs.ReadLemmas.{read_there}
use Rattle.house_world.proofs.WorldLemmas.{few_later}
use Rattle.house_world.proofs.BookLemmas.{book_same}

-- its answers fit a pull
pub bound_fits : (id jid : List ℕ) → length id ≤ 65536 → length jid ≤ 3071 → length (answer_text (answer.Bound id jid)) ≤ 524288
bound_fits id jid low short =
    let one = length-value_text-le id in
    let two = length-words_text-le jid in
    grind (arith, common_steps, one, two, low, short)

pub refused_fits : (id : List ℕ) → length id ≤ 65536 → length (answer_text (answer.Refused id)) ≤ 524288
refused_fits id low =
    let one = length-value_text-le id in
    grind (arith, common_steps, one, low)

pub did_more : (es : List Effect) (n m : ℕ) (a b : code.World) → n ≤ m → Did es n a b → Did es m a b
did_more es n m a b less did = record {
  world = did.world;
  tied = did.tied;
  known = did.known;
  few = λ turns few. few_later (turns + n) (turns + m) b.table (did.few turns few) (omega (arith, less));
  lines = did.lines;
  answered = did.answered;
  kept = did.kept;
}

-- the one who logged in at a line
pub logged_is : (g : stage.Line) → is_logged g ≡ true → (c : ℕ) × (u : ℕ) × (g ≡ Logged c u)
logged_is (Logged c u) is = (c, u, refl)
logged_is Empty is = absurd (cc)
logged_is (Fresh c) is = absurd (cc)
logged_is (Bound c s) is = absurd (cc)
logged_is (Over c cause) is = absurd (cc)

-- an answer that waits leaves the rooms and the archives as they are
pub said_hosts : (w : ℕ) (answer : Answer) (a b : code.World) → Did (At w (Say answer) ∷ []) 0 a b → Hosts a.rooms b.rooms
said_hosts w answer a b did = hosts_same a.rooms b.rooms (ap (λ (x : World KeptTraffic). x.rooms) did.world)

pub said_archives : (w : ℕ) (answer : Answer) (a b : code.World) → Did (At w (Say answer) ∷ []) 0 a b
    → Archived (archives_of a.archives) (archives_of b.archives)
said_archives w answer a b did =
    archived_same (archives_of a.archives) (archives_of b.archives) (ap (λ (x : World KeptTraffic). x.archives) did.world)

pub refused_ends : (k : Kept) (w c : ℕ) (a : Address) (id : List ℕ) (old new : code.World) → has_place k a ≡ false
    → Did (At w (Say (answer.Refused id)) ∷ []) 0 old new
    → Ends (binds (has_place k a) k w c a id) 1 reply.Done old new
refused_ends k w c a id old new place did =
    subst (λ (b : Bool). Ends (binds b k w c a id) 1 reply.Done old new) (sym place)
    (record { answer = refl; did = did_more (At w (Say (answer.Refused id)) ∷ []) 0 1 old new (omega arith) did })

pub made_ends : (k : Kept) (w c : ℕ) (a : Address) (id : List ℕ) (old new : code.World) → has_place k a ≡ true
    → Did (replaces k (session_at k a) ++ (Begin w c a ∷ At w (Say (answer.Bound id (address_text a))) ∷ [])) 1 old new
    → Ends (binds (has_place k a) k w c a id) 1 reply.Bound old new
made_ends k w c a id old new place did =
    subst (λ (b : Bool). Ends (binds b k w c a id) 1 reply.Bound old new) (sym place) (record { answer = refl; did = did })

-- room that is taken is not seen
pub tied_room : (t : TableRecord) (n : ℕ) → IsTied t → IsTied (record t { spare = n })
tied_room t n tied = record { bound = tied.bound; holds = tied.holds; each = tied.each }

pub few_room : (turns : ℕ) (t : TableRecord) (n : ℕ) → IsFew turns t → IsFew turns (record t { spare = n })
few_room turns t n few = record { opened = few.opened; made = few.made; sent = few.sent; acted = few.acted }

did_room : (a : code.World) (n : ℕ) → IsTied a.table → Did [] 0 a (record a { table = record a.table { spare = n } })
did_room a n tied = record {
  world = refl;
  tied = tied_room a.table n tied;
  known = λ many users. users;
  few = λ turns few. few_room (turns + 0) a.table n (few_later turns (turns + 0) a.table few (omega arith));
  lines = refl;
  answered = refl;
  kept = book_same;
}

pub room_tied : (t u : TableRecord) → u ≡ record t { spare = u.spare } → IsTied t → IsTied u
room_tied t u same tied = subst IsTied (sym same) (tied_room t u.spare tied)

pub room_few : (turns : ℕ) (t u : TableRecord) → u ≡ record t { spare = u.spare } → IsFew turns t → IsFew turns u
room_few turns t u same few = subst (IsFew turns) (sym same) (few_room turns t u.spare few)

pub room_did : (a : code.World) (u : TableRecord) → u ≡ record a.table { spare = u.spare } → IsTied a.table → Did [] 0 a (record a { table = u })
room_did a u same tied =
    subst (λ (x : TableRecord). Did [] 0 a (record a { table = x })) (sym same) (did_room a u.spare tied)

-- what is done, once there is room
pub room_then : (w : ℕ) (address : Address) (answer : Answer) (a b d : code.World) → Did [] 0 a b
    → Did (begun_in (seen b) w (conn_of (line_of w b.table)) address answer) 1 b d
    → Did (begun_in (seen a) w (conn_of (line_of w a.table)) address answer) 1 a d
room_then w address answer a b d same did =
    let line : line_of w b.table ≡ line_of w a.table = ap (λ (x : World KeptTraffic). (x.lines w).stage) same.world in
    let at : Did (begun_in (seen b) w (conn_of (line_of w a.table)) address answer) 1 b d =
    subst (λ (l : stage.Line). Did (begun_in (seen b) w (conn_of l) address answer) 1 b d) line did in
    did_then [] (begun_in (seen a) w (conn_of (line_of w a.table)) address answer) 0 1 a b d same
    (subst (λ (x : World KeptTraffic). Did (begun_in x w (conn_of (line_of w a.table)) address answer) 1 b d) same.world at)

-- the session of an address, as the table finds it
pub found_in : (a : code.World) (address : Address) → IsTied a.table → Rises 0 a.table.sessions a.table.made
    → session_in (seen a) address ≡ number_at address a.table.sessions
found_in a address tied rises = at_is (some_kept (seen a) 0) address a.table a.answers.items a.book.book a.rooms (archives_of a.archives)
    tied rises refl

replaces_is : (k : Kept) (o : Option ℕ) → replaced_by k.world o ≡ replaces k o
replaces_is k None = refl
replaces_is k (Some s) = refl

pub begun_did : (k : Kept) (w : ℕ) (address : Address) (answer : Answer) (a d : code.World) → k.world ≡ seen a
    → Did (begun_in (seen a) w (conn_of (line_of w a.table)) address answer) 1 a d
    → Did (replaces k (session_at k address) ++ (Begin w (conn_of (line_of w a.table)) address ∷ At w (Say answer) ∷ [])) 1 a d
begun_did k w address answer a d world did =
    subst (λ (es : List Effect). Did (es ++ (Begin w (conn_of (line_of w a.table)) address ∷ At w (Say answer) ∷ [])) 1 a d)
    ((λ i. replaced_in (sym world i) address) ∙ replaces_is k (session_at k address)) did

-- one effect after another
pub settled_did : (w c u : ℕ) (address : Address) (answer : Answer) (a b c' d : code.World) → line_of w a.table ≡ Logged c u
    → Did (replaced_in (seen a) address) 0 a b → KeepsLogged a b
    → Did (Begin w (conn_of (line_of w b.table)) address ∷ []) 1 b c' → Did (At w (Say answer) ∷ []) 0 c' d
    → Did (begun_in (seen a) w (conn_of (line_of w a.table)) address answer) 1 a d
settled_did w c u address answer a b c' d at one others two three =
    let same : line_of w b.table ≡ line_of w a.table = (others w c u at).0 ∙ sym at in
    let two' : Did (Begin w (conn_of (line_of w a.table)) address ∷ []) 1 b c' =
    subst (λ (l : stage.Line). Did (Begin w (conn_of l) address ∷ []) 1 b c') same two in
    did_then (replaced_in (seen a) address) (Begin w (conn_of (line_of w a.table)) address ∷ At w (Say answer) ∷ []) 0 1 a b d one
    (did_then (Begin w (conn_of (line_of w a.table)) address ∷ []) (At w (Say answer) ∷ []) 1 0 b c' d two' three)

-- what is there before the room is taken is there afterwards
pub room_line : (w : ℕ) (a b : code.World) → Did [] 0 a b → line_of w b.table ≡ line_of w a.table
room_line w a b same = ap (λ (x : World KeptTraffic). (x.lines w).stage) same.world

pub room_answers : (w : ℕ) (a b : code.World) → Did [] 0 a b → slice_index_or b.answers.items w [] ≡ slice_index_or a.answers.items w []
room_answers w a b same = ap (λ (x : World KeptTraffic). (x.lines w).answers) same.world

-- the whole event
pub bind_ends : (k : Kept) (w t c u : ℕ) (id : List ℕ) (resource : Option (List ℕ)) (dice : List ℕ) (p : model.Pass) (r : Reply) (address : Address)
    (a b d : code.World) → p ≡ model.Knows c u → b ≡ a → line_of w b.table ≡ Logged c u
    → address ≡ bound_address k u (resource_or dice resource)
    → Ends (binds (has_place k address) k w (conn_of (line_of w b.table)) address id) 1 r b d
    → Ends (body k (event.Bind w id resource t dice) p) 1 r a d
bind_ends k w t c u id resource dice p r address a b d pass same at is ends =
    ends_by k (event.Bind w id resource t dice) p (model.Knows c u) 1 r a b d pass same
    (subst (λ (x : Address). Ends (binds (has_place k x) k w c x id) 1 r b d) is
    (subst (λ (l : stage.Line). Ends (binds (has_place k address) k w (conn_of l) address id) 1 r b d) at ends))

pub more_ends : (v : Verdict) (r : Reply) (a b : code.World) → Ends v 0 r a b → Ends v 1 r a b
more_ends v r a b ends = record { answer = ends.answer; did = did_more v.effects 0 1 a b (omega arith) ends.did }

-- a call for which memory was wanting
pub same_did : (a b : code.World) → IsTied b.table → b ≡ a → Did [] 0 a b
same_did a b tied same = subst (λ (x : code.World). Did [] 0 x b) same (did_none b tied)

pub passed_is : (domain : Address) (users : List (List ℕ)) (limits : Limits) (turns moment : ℕ) (a b : code.World) → Did [] 0 a b
    → held (house domain users limits (turns + 1) moment b) ≡ passed (held (house domain users limits turns moment a))
passed_is domain users limits turns moment a b did = λ i. record {
  head = record { domain = domain; users = users; workers = did.lines i; limits = limits; turns = turns + 1; moment = moment };
  world = did.world i;
}

pub on_err : {T E P : Type 0} (r : Result T E) → P → OnErr r P
on_err (Ok v) p = tt
on_err (Err e) p = p

-- a connection that is not at the stage for it
unready_ends : (k : Kept) (w t : ℕ) (id : List ℕ) (resource : Option (List ℕ)) (dice : List ℕ) (p : model.Pass) (a b : code.World) → IsTied b.table
    → b ≡ a → (p ≡ model.Waits) ⊎ ((c : ℕ) × (s : ℕ) × (p ≡ model.Holds c s))
    → Ends (body k (event.Bind w id resource t dice) p) 0 reply.Unready a b
unready_ends k w t id resource dice p a b tied same (inl is) =
    subst (λ (q : model.Pass). Ends (body k (event.Bind w id resource t dice) q) 0 reply.Unready a b) (sym is)
    (record { answer = refl; did = same_did a b tied same })
unready_ends k w t id resource dice p a b tied same (inr is) =
    subst (λ (q : model.Pass). Ends (body k (event.Bind w id resource t dice) q) 0 reply.Unready a b) (sym is.2)
    (record { answer = refl; did = same_did a b tied same })

pub other_ends : (k : Kept) (w t : ℕ) (id : List ℕ) (resource : Option (List ℕ)) (dice : List ℕ) (q : pass.Pass) (p : model.Pass) (a b : code.World)
    → IsTied b.table → ((r : Reply) → q ≡ pass.TheVariants.Stop r → ⊥) → ((c u : ℕ) → q ≡ pass.TheVariants.Knows c u → ⊥) → Passes q p a b
    → Ends (body k (event.Bind w id resource t dice) p) 0 reply.Unready a b
other_ends k w t id resource dice (pass.TheVariants.Stop r) p a b tied not_stop not_known passes = absurd (not_stop r refl)
other_ends k w t id resource dice (pass.TheVariants.Knows c u) p a b tied not_stop not_known passes = absurd (not_known c u refl)
other_ends k w t id resource dice pass.TheVariants.Waits p a b tied not_stop not_known passes =
    unready_ends k w t id resource dice p a b tied passes.1 (inl passes.0)
other_ends k w t id resource dice (pass.TheVariants.Holds c s) p a b tied not_stop not_known passes =
    unready_ends k w t id resource dice p a b tied passes.1 (inr (c, s, passes.0))

-- a place that is there is as all are
pub all_at : (p : List ℕ → Bool) (xs : List (List ℕ)) (i : ℕ) (d : List ℕ) → i < length xs → list_all p xs ≡ true → p (get_or xs i d) ≡ true
all_at p xs i d low all = by (p (get_or xs i d)) refl
  where
    by : (b : Bool) → p (get_or xs i d) ≡ b → b ≡ true
    by true is = refl
    by false is = absurd (let z : true ≡ false = sym all ∙ list_all_at p xs i d low is in cc)

-- the address, from the user's part
pub bound_is : (k : Kept) (u : ℕ) (user resource : List ℕ) → u < length k.head.users → user ≡ get_or k.head.users u user
    → ◌≡◌ {A = Address} (record { local = Some user; domain = k.head.domain.domain; resource = Some resource }) (bound_address k u resource)
bound_is k u user resource low is = λ i. record {
  local = Some ((is ∙ read_there k.head.users u user [] low) i);
  domain = k.head.domain.domain;
  resource = Some resource;
}
