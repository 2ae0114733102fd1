-- What comes after goes with what came before.
use Rattle.std.proofs.Common.{◌≡◌, ◌≢◌, ℕ, ◌+◌, ◌≤◌, List, [], ◌∷◌, length, inl, inr, arith, refl, sym, ap, subst, ◌∙◌}
use Rattle.std.specs.Prelude.{Option, Some, None, true, false, Bool, if◌then◌else◌}
use Rattle.outside.specs.Tapes.{Tells}
use Rattle.conn_asks.specs.declared.ended.Ended.{Ended}
use Rattle.conn_asks.specs.declared.ended.Ended.TheVariants as ended
use Rattle.conn_flow.specs.Duties.{Site, Duty}
use Rattle.conn_flow.specs.Flows.{State, ToFinish, wish_of}
use Rattle.flow_laws.specs.Standing.{Place, duty}
use Rattle.flow_laws.specs.Steps.{handling, is_heard}
use Rattle.account_book.specs.Lists.{Book}
use Rattle.conn_serve.specs.declared.turn.Next.{Next}
use Rattle.conn_serve.specs.declared.turn.Next.TheVariants as next
use Rattle.conn_serve.specs.declared.turn.Round.{Round}
use Rattle.conn_serve.specs.declared.turn.Round.TheVariants.{Goes, Later, More, Ends, Exhausts}
use Rattle.conn_serve.specs.Rounds.{Asked, Counts, Flushed, Passed, ReadOnce, Resumes, Stepped, Turned, Unread}
use Rattle.conn_serve.specs.Serving.{Came, Exhausted, Finished, Grew, IsAt, IsStanding, Moved, Tale}
use Rattle.conn_serve.proofs.Growing.{exhausted_after, finished_after, grew_both, grew_nothing, lengths, longer, tells_both, tells_nothing}
use Rattle.conn_serve.proofs.Laws as L
use Rattle.conn_serve.proofs.Listening.{stops_owing}
use Rattle.conn_serve.proofs.Standing.{duty_moment, duty_owes, duty_owing, owing}

abbrev pub came_after : {o : Site} {a b c : Tale} {u v : Duty} {flow : State} {ahead owed : List ℕ} → Grew o a u b v → Came o b v c flow ahead owed
    → Came o a u c flow ahead owed
came_after grew came = record { to = came.to; at = came.at; grew = grew_both grew came.grew }

pub moved_after : {o : Site} {a b c : Tale} {u v : Duty} {flow : State} {ahead owed : List ℕ} (k n : ℕ) (grew : Grew o a u b v) → k ≤ length grew.moves
    → Moved n o b v c flow ahead owed → Moved (k + n) o a u c flow ahead owed
moved_after {flow = flow} k n grew first moved =
    record { came = came_after grew moved.came; enough = longer k n (handling flow.talk.phase) grew moved.came.grew first moved.enough }

pub turned_after : (o : Site) (a b c : Tale) (u v : Duty) (flow : State) (ahead owed : List ℕ) (k n : ℕ) (result : Next) (grew : Grew o a u b v)
    → k ≤ length grew.moves → Turned n o b v c flow ahead owed result → Turned (k + n) o a u c flow ahead owed result
turned_after o a b c u v flow ahead owed k n next.Goes grew first h = moved_after k n grew first h
turned_after o a b c u v flow ahead owed k n next.Rests grew first (came, none, rests) = (came_after grew came, none, rests)
turned_after o a b c u v flow ahead owed k n (next.Over x) grew first (came, over) = (came_after grew came, over)
turned_after o a b c u v flow ahead owed k n (next.Finishes x t) grew first h = finished_after grew h
turned_after o a b c u v flow ahead owed k n next.Exhausts grew first h = exhausted_after grew h

pub passed_after : (o : Site) (a b c : Tale) (u v : Duty) (flow : State) (ahead owed : List ℕ) (round : Round) → Grew o a u b v
    → Passed o b v c flow ahead owed round → Passed o a u c flow ahead owed round
passed_after o a b c u v flow ahead owed Goes grew (came, none, all, rests) = (came_after grew came, none, all, rests)
passed_after o a b c u v flow ahead owed Later grew (came, some) = (came_after grew came, some)
passed_after o a b c u v flow ahead owed More grew (came, none, many) =
    let all : length (came_after grew came).grew.moves ≡ length grew.moves + length came.grew.moves = lengths grew came.grew in
    (came_after grew came, none, omega (arith, many, all))
passed_after o a b c u v flow ahead owed (Ends x t) grew h = finished_after grew h
passed_after o a b c u v flow ahead owed Exhausts grew h = exhausted_after grew h

-- What is owed is sent.

pub sent_on : (o : Site) (a b c : Tale) (u : Duty) (flow : State) (ahead owed owed' : List ℕ) (came : Came o a u b flow ahead owed)
    → Grew o b (duty o came.to) c (record (duty o came.to) { owed = owed' }) → Came o a u c flow ahead owed'
sent_on o a b c u flow ahead owed owed' came grew = record {
  to = record came.to { owed = owed' };
  at = owing o came.to flow ahead owed owed' came.at;
  grew = grew_both came.grew (subst (λ (v : Duty). Grew o b (duty o came.to) c v) (duty_owing o came.to owed') grew);
}

-- what the code owes is owed at the place
pub owes_at : (o : Site) (p : Place) (flow : State) (ahead owed : List ℕ) → IsAt o p flow ahead owed → (duty o p).owed ≡ owed
owes_at o p flow ahead owed at = duty_owes o p ∙ at.owed_is

pub flushed_round : (o : Site) (a b c : Tale) (u : Duty) (flow : State) (ahead owed owed' : List ℕ) (round : Round) (came : Came o a u b flow ahead owed)
    → Flushed o b (duty o came.to) c owed' (Some round) → Passed o a u c flow ahead owed' round
flushed_round o a b c u flow ahead owed owed' Later came (grew, some) = (sent_on o a b c u flow ahead owed owed' came grew, some)
flushed_round o a b c u flow ahead owed owed' (Ends x t) came h = finished_after came.grew h
flushed_round o a b c u flow ahead owed owed' Goes came h = absurd h
flushed_round o a b c u flow ahead owed owed' More came h = absurd h
flushed_round o a b c u flow ahead owed owed' Exhausts came h = absurd h

-- with the moves that were made before
pub flushed_moved : (o : Site) (a b c : Tale) (u : Duty) (flow : State) (ahead owed owed' : List ℕ) (n : ℕ) (moved : Moved n o a u b flow ahead owed)
    → Grew o b (duty o moved.came.to) c (record (duty o moved.came.to) { owed = owed' }) → Moved n o a u c flow ahead owed'
flushed_moved o a b c u flow ahead owed owed' n moved grew =
    let on : Came o b (duty o moved.came.to) c flow ahead owed' =
    record {
      to = record moved.came.to { owed = owed' };
      at = owing o moved.came.to flow ahead owed owed' moved.came.at;
      grew = subst (λ (v : Duty). Grew o b (duty o moved.came.to) c v) (duty_owing o moved.came.to owed') grew;
    } in
    let all : length (came_after moved.came.grew on).grew.moves ≡ length moved.came.grew.moves + length on.grew.moves =
    lengths moved.came.grew on.grew in
    record { came = came_after moved.came.grew on; enough = omega (arith, moved.enough, all) }

pub flushed_step : (o : Site) (a b c : Tale) (u : Duty) (flow : State) (ahead owed owed' : List ℕ) (n : ℕ) (result : Option Round)
    (moved : Moved n o a u b flow ahead owed) → Flushed o b (duty o moved.came.to) c owed' result → Stepped n o a u c flow ahead owed' result
flushed_step o a b c u flow ahead owed owed' n None moved (grew, none) = flushed_moved o a b c u flow ahead owed owed' n moved grew
flushed_step o a b c u flow ahead owed owed' n (Some round) moved h = flushed_round o a b c u flow ahead owed owed' round moved.came h

few : (b : Bool) → (if b then 1 else 0) ≤ 1
few true = omega arith
few false = omega arith

-- after many steps
pub flushed_more : (o : Site) (a b c : Tale) (u : Duty) (flow : State) (ahead owed owed' : List ℕ) (n : ℕ) (moved : Moved n o a u b flow ahead owed)
    → 65 ≤ n → Flushed o b (duty o moved.came.to) c owed' None → Passed o a u c flow ahead owed' More
flushed_more o a b c u flow ahead owed owed' n moved many (grew, none) =
    let all : Moved n o a u c flow ahead owed' = flushed_moved o a b c u flow ahead owed owed' n moved grew in
    let one : handling flow.talk.phase ≤ 1 = few (is_heard flow.talk.phase) in
    (all.came, none, omega (arith, many, all.enough, one))

-- a flow that is over is to leave its line
pub ends_here : (o : Site) (a b : Tale) (u : Duty) (flow : State) (ahead owed : List ℕ) (x : Ended) (t : ℕ) → Came o a u b flow ahead owed → owed ≡ []
    → wish_of flow ≡ ToFinish x → t ≡ flow.talk.moment → Finished o a u b x t
ends_here o a b u flow ahead owed x t came none w now = record {
  last = duty o came.to;
  grew = came.grew;
  leaves = L.ends o came.to x (ap wish_of came.at.flow_is ∙ w);
  sent = owes_at o came.to flow ahead owed came.at ∙ none;
  at = duty_moment o came.to ∙ ap (λ (s : State). s.talk.moment) came.at.flow_is ∙ sym now;
}

-- What stands stands on.

pub stands_on : (line : ℕ) (accounts : Book) (flow flow' : State) (ahead ahead' owed owed' : List ℕ) (a b : Tale)
    → (s : IsStanding line accounts flow ahead owed) → Came s.site a (duty s.site s.place) b flow' ahead' owed' → IsStanding line accounts flow' ahead' owed'
stands_on line accounts flow flow' ahead ahead' owed owed' a b s came =
    record { site = s.site; place = came.to; line_is = s.line_is; accounts_are = s.accounts_are; at = came.at }

-- Readings and counts.

pub unread_after : (a b c : Option (List ℕ)) (round : Round) → b ≡ a → Unread b c round → Unread a c round
unread_after a b c round e h = subst (λ (x : Option (List ℕ)). Unread x c round) e h

pub asked_once : (a b c : Option (List ℕ)) (round : Round) → b ≡ a → ReadOnce b c round → ReadOnce a c round
asked_once a b c round e h = subst (λ (x : Option (List ℕ)). ReadOnce x c round) e h

-- one reading, and then none
read_then : (a b c : Option (List ℕ)) (h : Asked a b) → c ≡ b → Tells ℕ a c (h.0 ∷ [])
read_then a b c h e = subst (λ (x : Option (List ℕ)). Tells ℕ a x (h.0 ∷ [])) (sym e) h.1

once_then : (a b c : Option (List ℕ)) (round : Round) → Asked a b → Unread b c round → ReadOnce a c round
once_then a b c Goes h f = (h.0 ∷ [], read_then a b c h f, refl)
once_then a b c More h f = (h.0 ∷ [], read_then a b c h f, omega arith)
once_then a b c Later h f = (h.0 ∷ [], read_then a b c h f, omega arith)
once_then a b c Exhausts h f = (h.0 ∷ [], read_then a b c h f, omega arith)
once_then a b c (Ends x t) h (inl f) = (h.0 ∷ [], read_then a b c h f, inl (omega arith))
once_then a b c (Ends x t) h (inr f) = (h.0 ∷ f.1.0 ∷ [], tells_both ℕ a b c (h.0 ∷ []) (f.1.0 ∷ []) h.1 f.1.1, inr (f.0, refl))

pub read_once : (a b c d : Option (List ℕ)) (round : Round) → b ≡ a → Asked b c → Unread c d round → ReadOnce a d round
read_once a b c d round e h f = asked_once a b d round e (once_then b c d round h f)

-- none at all
pub none_read : (a b : Option (List ℕ)) → b ≡ a → (moments : List ℕ) × Tells ℕ a b moments × (length moments ≤ 1)
none_read a b e = ([], subst (λ (x : Option (List ℕ)). Tells ℕ a x []) (sym e) (tells_nothing ℕ a), omega arith)

pub ends_unread : (a b : Option (List ℕ)) (x : Ended) (t : ℕ) → Unread a b (Ends x t) → ReadOnce a b (Ends x t)
ends_unread a b x t (inl e) = let none = none_read a b e in (none.0, none.1, inl none.2)
ends_unread a b x t (inr f) = (f.1.0 ∷ [], f.1.1, inl (omega arith))

-- an end after one reading
pub ends_read : (a b : Option (List ℕ)) (x : Ended) (t : ℕ) → Asked a b → ReadOnce a b (Ends x t)
ends_read a b x t h = (h.0 ∷ [], h.1, inl (omega arith))

-- an end where the link could take no byte
pub ends_later : (a b : Option (List ℕ)) (x : Ended) (t : ℕ) → ReadOnce a b Later → ReadOnce a b (Ends x t)
ends_later a b x t h = (h.0, h.1, inl h.2)

pub counts_after : (a b c : ℕ) (round : Round) → b ≡ a → Counts b c round → Counts a c round
counts_after a b c round e h = subst (λ (x : ℕ). Counts x c round) e h

-- The loop.

pub moved_none : (o : Site) (a : Tale) (p : Place) (flow : State) (ahead owed : List ℕ) → IsAt o p flow ahead owed → Moved 0 o a (duty o p) a flow ahead owed
moved_none o a p flow ahead owed at = record { came = record { to = p; at = at; grew = grew_nothing o a (duty o p) }; enough = omega arith }

pub moved_both : (o : Site) (a b c : Tale) (u : Duty) (flow flow' : State) (ahead ahead' owed owed' : List ℕ) (n : ℕ)
    → Moved n o a u b flow ahead owed
    → ((p : Place) → IsAt o p flow ahead owed → Moved (handling flow.talk.phase + 1) o b (duty o p) c flow' ahead' owed')
    → Moved (n + 1) o a u c flow' ahead' owed'
moved_both o a b c u flow flow' ahead ahead' owed owed' n first next =
    let more : Moved (handling flow.talk.phase + 1) o b (duty o first.came.to) c flow' ahead' owed' = next first.came.to first.came.at in
    let all : length (came_after first.came.grew more.came).grew.moves ≡ length first.came.grew.moves + length more.came.grew.moves =
    lengths first.came.grew more.came.grew in
    record { came = came_after first.came.grew more.came; enough = omega (arith, first.enough, more.enough, all) }

pub passed_on : (o : Site) (a b c : Tale) (u : Duty) (flow flow' : State) (ahead ahead' owed owed' : List ℕ) (round : Round)
    → Came o a u b flow ahead owed → ((p : Place) → IsAt o p flow ahead owed → Passed o b (duty o p) c flow' ahead' owed' round)
    → Passed o a u c flow' ahead' owed' round
passed_on o a b c u flow flow' ahead ahead' owed owed' round came next =
    passed_after o a b c u (duty o came.to) flow' ahead' owed' round came.grew (next came.to came.at)

-- A reading comes where all is sent.

pub rests_at : (o : Site) (p : Place) (flow : State) (ahead owed : List ℕ) → owed ≡ [] → IsAt o p flow ahead owed → IsAt o p flow ahead []
rests_at o p flow ahead owed none at = subst (λ (x : List ℕ). IsAt o p flow ahead x) none at

pub read_passed : (o : Site) (a b c : Tale) (u : Duty) (flow flow' : State) (ahead ahead' owed : List ℕ) (round : Round)
    → Came o a u b flow ahead owed → owed ≡ [] → ((p : Place) → IsAt o p flow ahead [] → Passed o b (duty o p) c flow' ahead' [] round)
    → Passed o a u c flow' ahead' owed round
read_passed o a b c u flow flow' ahead ahead' owed round came none next =
    subst (λ (x : List ℕ). Passed o a u c flow' ahead' x round) (sym none)
    (passed_after o a b c u (duty o came.to) flow' ahead' [] round came.grew (next came.to (rests_at o came.to flow ahead owed none came.at)))

pub read_on : (o : Site) (a b c : Tale) (u : Duty) (flow flow' : State) (ahead ahead' owed : List ℕ)
    → Came o a u b flow ahead owed → owed ≡ [] → ((p : Place) → IsAt o p flow ahead [] → Came o b (duty o p) c flow' ahead' [])
    → Came o a u c flow' ahead' owed
read_on o a b c u flow flow' ahead ahead' owed came none next =
    subst (λ (x : List ℕ). Came o a u c flow' ahead' x) (sym none)
    (came_after came.grew (next came.to (rests_at o came.to flow ahead owed none came.at)))

-- Rounds join.

pub came_both : (o : Site) (a b c : Tale) (u : Duty) (flow flow' : State) (ahead ahead' owed owed' : List ℕ) → Came o a u b flow ahead owed
    → ((p : Place) → IsAt o p flow ahead owed → Came o b (duty o p) c flow' ahead' owed') → Came o a u c flow' ahead' owed'
came_both o a b c u flow flow' ahead ahead' owed owed' first next = came_after first.grew (next first.to first.at)

pub over_both : (o : Site) (a b c : Tale) (u : Duty) (flow : State) (ahead owed : List ℕ) (x : Ended) (t : ℕ) → Came o a u b flow ahead owed
    → ((p : Place) → IsAt o p flow ahead owed → Finished o b (duty o p) c x t) → Finished o a u c x t
over_both o a b c u flow ahead owed x t first next = finished_after first.grew (next first.to first.at)

pub exhausted_both : (o : Site) (a b c : Tale) (u : Duty) (flow : State) (ahead owed : List ℕ) → Came o a u b flow ahead owed
    → ((p : Place) → IsAt o p flow ahead owed → Exhausted o b (duty o p) c) → Exhausted o a u c
exhausted_both o a b c u flow ahead owed first next = exhausted_after first.grew (next first.to first.at)

-- what is owed under another name

pub owes_same : (o : Site) (a b : Tale) (u : Duty) (flow : State) (ahead owed owed' : List ℕ) → owed ≡ owed' → Came o a u b flow ahead owed
    → Came o a u b flow ahead owed'
owes_same o a b u flow ahead owed owed' is came = subst (λ (x : List ℕ). Came o a u b flow ahead x) is came

pub passed_owing : (o : Site) (a b : Tale) (u : Duty) (flow : State) (ahead owed owed' : List ℕ) (round : Round) → owed ≡ owed'
    → Passed o a u b flow ahead owed round → Passed o a u b flow ahead owed' round
passed_owing o a b u flow ahead owed owed' round is passed = subst (λ (x : List ℕ). Passed o a u b flow ahead x round) is passed

-- there was no memory to keep the rest
pub lost_rest : (o : Site) (a b : Tale) (u : Duty) (flow : State) (ahead owed : List ℕ) (t : ℕ) → Came o a u b flow ahead owed → owed ≢ []
    → t ≡ flow.talk.moment → Finished o a u b ended.NoMemory t
lost_rest o a b u flow ahead owed t came some now =
    finished_after came.grew
    (stops_owing o b (duty o came.to) t (λ none. some (sym (owes_at o came.to flow ahead owed came.at) ∙ none))
    (duty_moment o came.to ∙ ap (λ (s : State). s.talk.moment) came.at.flow_is ∙ sym now))

-- Where an earlier round left something, it is sent first.

-- what is gathered begins with nothing
pub starts_on : (o : Site) (a b : Tale) (p : Place) (flow : State) (ahead owed owed' said : List ℕ) → IsAt o p flow ahead owed
    → Flushed o a (duty o p) b owed' None → said ≡ [] → Came o a (duty o p) b flow ahead said
starts_on o a b p flow ahead owed owed' said at (grew, none) clear =
    owes_same o a b (duty o p) flow ahead owed' said (none ∙ sym clear)
    (sent_on o a a b (duty o p) flow ahead owed owed' (record { to = p; at = at; grew = grew_nothing o a (duty o p) }) grew)

pub resumed : (o : Site) (a b c : Tale) (v : Duty) (flow flow' : State) (ahead ahead' said owed' : List ℕ) (round : Round)
    (came : Came o a v b flow ahead said) → said ≡ [] → b.told.turns ≡ a.told.turns → b.told.drawn ≡ a.told.drawn
    → ((p : Place) → IsAt o p flow ahead said → Passed o b (duty o p) c flow' ahead' owed' round)
    → Resumes o a v flow ahead c flow' ahead' owed' round
resumed o a b c v flow flow' ahead ahead' said owed' round came clear turns_are drawn next =
    let sent : Came o a v b flow ahead [] = owes_same o a b v flow ahead said [] clear came in
    inl
    (record {
      mid = b;
      turns_are = turns_are;
      drawn = drawn;
      sent = sent;
      passed = next sent.to (subst (λ (x : List ℕ). IsAt o sent.to flow ahead x) (sym clear) sent.at);
    })

-- a round that stops at once made no reading
pub flushed_once : (o : Site) (a : Tale) (v : Duty) (b : Tale) (owed : List ℕ) (before now : Option (List ℕ)) (round : Round)
    → Flushed o a v b owed (Some round) → Unread before now round → ReadOnce before now round
flushed_once o a v b owed before now Goes h f = absurd h
flushed_once o a v b owed before now More h f = absurd h
flushed_once o a v b owed before now Later h f = none_read before now f
flushed_once o a v b owed before now (Ends x t) h f = ends_unread before now x t f
flushed_once o a v b owed before now Exhausts h f = absurd h
