-- What a line is given, as the definition gives it.
use Rattle.std.proofs.Common.{◌≡◌, ℕ, ◌+◌, ◌<◌, ◌&&◌, nat_lt, List, [], ◌∷◌, ◌++◌, Bool, true, false, length, drop, get_or, set}
use Rattle.std.proofs.Common.{is_some, Option, Some, None, refl, sym, ap, subst, ◌∙◌, arith, append-nil}
use Rattle.std.proofs.lemmas.List.{length-set, set-get_or}
use Rattle.std.specs.Prelude.{IsSomeAnd, slice_get}
use Rattle.std.specs.Borrow.{Bor}
use Rattle.std.specs.Option.{option_copied}
use Rattle.std.specs.Vec.{with_item}
use Rattle.stanza_tree.specs.declared.frame.Entry.{Entry}
use Rattle.session_table.specs.declared.life.Life.TheVariants.{Live}
use Rattle.session_table.specs.Sessions as table
use Rattle.session_table.specs.Sessions.{SessionRecord}
use Rattle.session_table.specs.Tables.{IsFirst, Rises, TableRecord, first_due, session_of}
use Rattle.archive_table.specs.Tables.{archives_of}
use Rattle.house_model.specs.declared.answer.Answer.{Answer}
use Rattle.house_model.specs.declared.event.Event.{Event}
use Rattle.house_model.specs.declared.event.Event.TheVariants.{Pull}
use Rattle.house_model.specs.declared.reply.Reply.{Reply}
use Rattle.house_model.specs.declared.reply.Reply.TheVariants as reply
use Rattle.house_model.specs.Answers.{request_text}
use Rattle.house_model.specs.Effects.{Effect, At, On, Said}
use Rattle.house_model.specs.Gate as model
use Rattle.house_model.specs.Gate.{Verdict}
use Rattle.house_model.specs.Sessions as ops
use Rattle.house_model.specs.Sessions.{Session}
use Rattle.house_model.specs.States.{Kept, World}
use Rattle.house_model.specs.Steps.{body, due, gives_entry, nothing, pulls, pulls_from, requests}
use Rattle.house_model.specs.Traffic.{KeptTraffic}
use Rattle.house_core.specs.declared.gate.Pass.TheVariants.{Stop}
use Rattle.house_world.specs.declared.world.World as code
use Rattle.house_core.specs.Gates.{Passes}
use Rattle.house_world.specs.Views.{session_by, world_of}
use Rattle.house_core.specs.Pulls.{Framed, GaveAt, Gives, pass_of}
use Rattle.house_world.specs.Oldest.{Gave}
use Rattle.house_world.specs.Wholes.{IsTied}
use Rattle.house_world.specs.Worlds.{Did, IsHeld, seen}
use Rattle.house_world.proofs.DidLemmas.{did_none, did_then}
use Rattle.house_world.proofs.DueLemmas.{due_is, due_is_none, there_at}
use Rattle.house_world.proofs.OffLemmas.{there}
use Rattle.house_world.proofs.ReadLemmas.{world_said}
use Rattle.house_world.proofs.WorldLemmas.{few_later}
use Rattle.house_world.proofs.BookLemmas.{book_same}

-- effects that counted nothing counted at most one
pub did_more : (es : List Effect) (a b : code.World) → Did es 0 a b → Did es 1 a b
did_more es a b did = record {
  world = did.world;
  tied = did.tied;
  known = did.known;
  few = λ turns few. few_later (turns + 0) (turns + 1) b.table (did.few turns few) (omega arith);
  lines = did.lines;
  answered = did.answered;
  kept = did.kept;
}

-- the oldest answer of a line was given
given_did : (w : ℕ) (a : code.World) (now : List Answer) → IsTied a.table → w < length a.answers.items
    → now ≡ drop 1 (get_or a.answers.items w [])
    → Did (At w Said ∷ []) 0 a (record a { answers = with_item a.answers w now })
given_did w a now tied low is = record {
  world = world_said a.table a.answers.items a.book.book a.rooms (archives_of a.archives) w now (drop 1 (get_or a.answers.items w [])) low is;
  tied = tied;
  known = λ many users. users;
  few = λ turns few. few_later turns (turns + 0) a.table few (omega arith);
  lines = refl;
  answered = length-set a.answers.items w now;
  kept = book_same;
}

-- nothing was given
same_did : (w : ℕ) (a : code.World) (now : List Answer) → IsTied a.table → now ≡ get_or a.answers.items w []
    → Did [] 0 a (record a { answers = with_item a.answers w now })
same_did w a now tied is = record {
  world =
      ap (λ (xs : List (List Answer)). world_of a.table xs a.book.book a.rooms (archives_of a.archives))
      (ap (set a.answers.items w) is ∙ set-get_or a.answers.items w []);
  tied = tied;
  known = λ many users. users;
  few = λ turns few. few_later turns (turns + 0) a.table few (omega arith);
  lines = refl;
  answered = length-set a.answers.items w now;
  kept = book_same;
}

pub gave_at : (w : ℕ) (a : code.World) (xs now : List Answer) (given : Bool) (before after : List ℕ) → IsTied a.table
    → w < length a.answers.items → xs ≡ get_or a.answers.items w [] → Gave xs now given before after
    → GaveAt w xs a (record a { answers = with_item a.answers w now }) given before after
gave_at w a [] now given before after tied low at gave = (gave.0, (refl, (same_did w a now tied (gave.1.0 ∙ at), gave.1.1)))
gave_at w a (x ∷ more) now given before after tied low at gave =
    (gave.0, (given_did w a now tied low (gave.1.0 ∙ ap (drop 1) at), gave.1.1))

pub none_gave : (w : ℕ) (xs : List Answer) (a b : code.World) (before after : List ℕ) → GaveAt w xs a b false before after
    → (xs ≡ []) × (b.table ≡ a.table) × (Did [] 0 a b) × (after ≡ before)
none_gave w [] a b before after gave = (refl, gave.1.0, gave.1.1.0, gave.1.1.1)
none_gave w (x ∷ more) a b before after gave = absurd (let z : false ≡ true = gave.0 in cc)

answer_by : (w : ℕ) (x : Answer) (more : List Answer) (o : Option ℕ) (k : Kept) (a b : code.World) (before after : List ℕ)
    → GaveAt w (x ∷ more) a b true before after → Gives (pulls k w (x ∷ more) (pass_of o)) reply.Frame a b before after
answer_by w x more None k a b before after gave =
    record { ends = record { answer = refl; did = did_more (At w Said ∷ []) a b gave.1.0 }; text = gave.1.1 }
answer_by w x more (Some s) k a b before after gave =
    record { ends = record { answer = refl; did = did_more (At w Said ∷ []) a b gave.1.0 }; text = gave.1.1 }

pub answer_gives : (w : ℕ) (xs : List Answer) (o : Option ℕ) (k : Kept) (a b : code.World) (before after : List ℕ)
    → GaveAt w xs a b true before after → Gives (pulls k w xs (pass_of o)) reply.Frame a b before after
answer_gives w [] o k a b before after gave = absurd (let z : true ≡ false = gave.0 in cc)
answer_gives w (x ∷ more) o k a b before after gave = answer_by w x more o k a b before after gave

-- what a session gives, by what the table has of it
pub next_is : (k : Kept) (a : code.World) (s : ℕ) (x : SessionRecord) → k.world ≡ seen a → session_of s a.table ≡ Some x
    → pulls_from k (model.Holds 0 s) ≡ gives_entry (slice_get x.queue.waiting x.queue.given) k s (session_by a.table.lines (Some x))
next_is k a s x world at =
    ap (λ (y : Session KeptTraffic). gives_entry (slice_get y.traffic.waiting y.traffic.given) k s y)
    (ap (λ (v : World KeptTraffic). v.sessions s) world ∙ ap (session_by a.table.lines) at)

pub gives_by : (v u : Verdict) (r : Reply) (a b : code.World) (before after : List ℕ) → v ≡ u → Gives u r a b before after
    → Gives v r a b before after
gives_by v u r a b before after same gives = subst (λ (o : Verdict). Gives o r a b before after) (sym same) gives

entry_by : (o : Option Entry) (k : Kept) (s : ℕ) (y : Session KeptTraffic) (a b : code.World) (before after : List ℕ)
    → Framed o true before after → Did (On s ops.Pull ∷ []) 1 a b → Gives (gives_entry o k s y) reply.Frame a b before after
entry_by None k s y a b before after framed did = absurd (let z : true ≡ false = framed.0 in cc)
entry_by (Some e) k s y a b before after framed did = record { ends = record { answer = refl; did = did }; text = framed.1 }

pub entry_gives : (k : Kept) (s : ℕ) (x : SessionRecord) (a b : code.World) (before after : List ℕ) → k.world ≡ seen a
    → session_of s a.table ≡ Some x → Framed (slice_get x.queue.waiting x.queue.given) true before after
    → Did (On s ops.Pull ∷ []) 1 a b → Gives (pulls_from k (pass_of (Some s))) reply.Frame a b before after
entry_gives k s x a b before after world at framed did =
    gives_by (pulls_from k (model.Holds 0 s)) (gives_entry (slice_get x.queue.waiting x.queue.given) k s (session_by a.table.lines (Some x)))
    reply.Frame a b before after (next_is k a s x world at)
    (entry_by (slice_get x.queue.waiting x.queue.given) k s (session_by a.table.lines (Some x)) a b before after framed did)

pub none_framed : (o : Option Entry) (before after : List ℕ) → Framed o false before after → (o ≡ None) × (after ≡ before)
none_framed None before after framed = (refl, framed.1)
none_framed (Some e) before after framed = absurd (let z : false ≡ true = framed.0 in cc)

pub counts_of : (counts late : Bool) → true ≡ (counts && late) → counts ≡ true
counts_of true late is = refl
counts_of false late is = absurd (let z : true ≡ false = is in cc)

-- a session that is held is there
pub held_there : (s : ℕ) (t : TableRecord) → IsHeld s t → (x : SessionRecord) × (session_of s t ≡ Some x)
held_there s t held =
    let who = there (λ (x : SessionRecord). (x.state ≡ Live) × (x.holder ≡ Some held.0)) (session_of s t) held.1 in
    (who.0, who.1)

-- no entry waits that was not given
asked_is : (k : Kept) (s : ℕ) (x : SessionRecord) (a : code.World) (o : Option Entry) (asks : Bool) → o ≡ None
    → asks ≡ (x.counts && nat_lt x.asked_at (x.given_up + x.queue.given))
    → gives_entry o k s (session_by a.table.lines (Some x)) ≡ requests asks k s
asked_is k s x a o asks none is =
    ap (λ (e : Option Entry). gives_entry e k s (session_by a.table.lines (Some x))) none ∙ ap (λ (b : Bool). requests b k s) (sym is)

module _ (k : Kept) (s : ℕ) (x : SessionRecord) (a : code.World) (before mid : List ℕ) (world : k.world ≡ seen a)
    (at : session_of s a.table ≡ Some x) (framed : Framed (slice_get x.queue.waiting x.queue.given) false before mid) where
  abbrev next : Option Entry
  next = slice_get x.queue.waiting x.queue.given

  asks_is : (asks : Bool) → asks ≡ (x.counts && nat_lt x.asked_at (x.given_up + x.queue.given))
      → pulls_from k (model.Holds 0 s) ≡ requests asks k s
  asks_is asks is = next_is k a s x world at ∙ asked_is k s x a next asks (none_framed next before mid framed).0 is

  pub request_gives : (b : code.World) (after : List ℕ) → true ≡ (x.counts && nat_lt x.asked_at (x.given_up + x.queue.given))
      → after ≡ mid ++ request_text → Did (On s ops.Request ∷ []) 0 a b → Gives (pulls_from k (pass_of (Some s))) reply.Frame a b before after
  request_gives b after is text did =
      gives_by (pulls_from k (model.Holds 0 s)) (requests true k s) reply.Frame a b before after (asks_is true is) (record {
        ends = record { answer = refl; did = did_more (On s ops.Request ∷ []) a b did };
        text = text ∙ ap (λ (m : List ℕ). m ++ request_text) (none_framed next before mid framed).1;
      })

  pub nothing_next : (r : Reply) → IsTied a.table → false ≡ (x.counts && nat_lt x.asked_at (x.given_up + x.queue.given))
      → r ≡ (nothing k).reply → Gives (pulls_from k (pass_of (Some s))) r a a before mid
  nothing_next r tied is same =
      gives_by (pulls_from k (model.Holds 0 s)) (requests false k s) r a a before mid (asks_is false is) (record {
        ends = record { answer = same; did = did_more [] a a (did_none a tied) };
        text = (none_framed next before mid framed).1 ∙ sym (append-nil before);
      })

pub nothing_gives : (k : Kept) (r : Reply) (a : code.World) (out : List ℕ) → IsTied a.table → r ≡ (nothing k).reply
    → Gives (nothing k) r a a out out
nothing_gives k r a out tied same =
    record { ends = record { answer = same; did = did_more [] a a (did_none a tied) }; text = sym (append-nil out) }

-- no answer waits
after_none : (v : Verdict) (r : Reply) (a b d : code.World) (before mid after : List ℕ) → Did [] 0 a b → mid ≡ before → Gives v r b d mid after
    → Gives v r a d before after
after_none v r a b d before mid after none text gives = record {
  ends = record { answer = gives.ends.answer; did = did_then [] v.effects 0 1 a b d none gives.ends.did };
  text = gives.text ∙ ap (λ (m : List ℕ). m ++ v.text) text;
}

moved : (v : Verdict) (r : Reply) (a b d : code.World) (before after : List ℕ) → b ≡ a → Gives v r b d before after
    → Gives v r a d before after
moved v r a b d before after same gives = subst (λ (z : code.World). Gives v r z d before after) same gives

give_none : (o : Option ℕ) (k : Kept) (w : ℕ) → pulls k w [] (pass_of o) ≡ pulls_from k (pass_of o)
give_none None k w = refl
give_none (Some s) k w = refl

pub give_on : (o : Option ℕ) (k : Kept) (w : ℕ) (xs : List Answer) (r : Reply) (a b d : code.World) (before mid after : List ℕ)
    → GaveAt w xs a b false before mid → Gives (pulls_from k (pass_of o)) r b d mid after
    → Gives (pulls k w xs (pass_of o)) r a d before after
give_on o k w xs r a b d before mid after gave gives =
    let none = none_gave w xs a b before mid gave in
    gives_by (pulls k w xs (pass_of o)) (pulls_from k (pass_of o)) r a d before after
    (ap (λ (ys : List Answer). pulls k w ys (pass_of o)) none.0 ∙ give_none o k w)
    (after_none (pulls_from k (pass_of o)) r a b d before mid after none.2 none.3 gives)

-- what the gate lets through
pub stop_gives : (k : Kept) (e : Event) (p : model.Pass) (r : Reply) (a b : code.World) (out : List ℕ) → Passes (Stop r) p a b
    → Gives (body k e p) r a b out out
stop_gives k e p r a b out passes =
    subst (λ (q : model.Pass). Gives (body k e q) r a b out out) (sym passes.1.0) (record {
      ends = record { answer = passes.1.1.0; did = did_more passes.0.effects a b passes.1.1.1.1 };
      text = sym (append-nil out) ∙ ap (λ (text : List ℕ). out ++ text) passes.1.1.1.0;
    })

answers_at : (k : Kept) (w : ℕ) (a b : code.World) → k.world ≡ seen a → b ≡ a → (k.world.lines w).answers ≡ get_or b.answers.items w []
answers_at k w a b world same = ap (λ (x : World KeptTraffic). (x.lines w).answers) (world ∙ ap seen (sym same))

holds_any : (k : Kept) (w c s : ℕ) (xs : List Answer) → pulls k w xs (model.Holds c s) ≡ pulls k w xs (pass_of (Some s))
holds_any k w c s [] = refl
holds_any k w c s (x ∷ more) = refl

knows_any : (k : Kept) (w c u : ℕ) (xs : List Answer) → pulls k w xs (model.Knows c u) ≡ pulls k w xs (pass_of None)
knows_any k w c u [] = refl
knows_any k w c u (x ∷ more) = refl

pass_gives : (k : Kept) (w t : ℕ) (p q : model.Pass) (o : Option ℕ) (r : Reply) (a b d : code.World) (before after : List ℕ)
    → k.world ≡ seen a → p ≡ q → b ≡ a
    → body k (Pull w t) q ≡ pulls k w (k.world.lines w).answers (pass_of o)
    → Gives (pulls k w (get_or b.answers.items w []) (pass_of o)) r b d before after
    → Gives (body k (Pull w t) p) r a d before after
pass_gives k w t p q o r a b d before after world pass same is gives =
    gives_by (body k (Pull w t) p) (pulls k w (get_or b.answers.items w []) (pass_of o)) r a d before after
    (ap (body k (Pull w t)) pass ∙ (is ∙ ap (λ (xs : List Answer). pulls k w xs (pass_of o)) (answers_at k w a b world same)))
    (moved (pulls k w (get_or b.answers.items w []) (pass_of o)) r a b d before after same gives)

module _ (k : Kept) (w t : ℕ) (p : model.Pass) (r : Reply) (a b d : code.World) (before after : List ℕ) (world : k.world ≡ seen a) (same : b ≡ a) where
  pub holds_gives : (c s : ℕ) → p ≡ model.Holds c s → Gives (pulls k w (get_or b.answers.items w []) (pass_of (Some s))) r b d before after
      → Gives (body k (Pull w t) p) r a d before after
  holds_gives c s pass gives =
      pass_gives k w t p (model.Holds c s) (Some s) r a b d before after world pass same (holds_any k w c s (k.world.lines w).answers) gives

  pub knows_gives : (c u : ℕ) → p ≡ model.Knows c u → Gives (pulls k w (get_or b.answers.items w []) (pass_of None)) r b d before after
      → Gives (body k (Pull w t) p) r a d before after
  knows_gives c u pass gives =
      pass_gives k w t p (model.Knows c u) None r a b d before after world pass same (knows_any k w c u (k.world.lines w).answers) gives

  pub waits_gives : p ≡ model.Waits → Gives (pulls k w (get_or b.answers.items w []) (pass_of None)) r b d before after
      → Gives (body k (Pull w t) p) r a d before after
  waits_gives pass gives = pass_gives k w t p model.Waits None r a b d before after world pass same refl gives

-- whether a session is due
pub found_there : (P : SessionRecord → Type 0) (o : Option (Bor SessionRecord)) (p : Option SessionRecord) → option_copied o ≡ p
    → IsSomeAnd p P → is_some o ≡ true
found_there P None p is there = absurd (there_at P p there (sym is))
found_there P (Some x) p is there = refl

pub has_due : (k : Kept) (a : code.World) (moment s : ℕ) → k.world ≡ seen a → k.head.moment ≡ moment
    → Rises 0 a.table.sessions a.table.made → Some s ≡ first_due moment a.table.sessions → true ≡ is_some (due k)
has_due k a moment s world now rises is =
    ap is_some (is ∙ (ap (λ (m : ℕ). first_due m a.table.sessions) (sym now)
    ∙ due_is k a.table rises (ap (λ (x : World KeptTraffic). x.made) world) (ap (λ (x : World KeptTraffic). x.sessions) world)))

pub has_no_due : (k : Kept) (a : code.World) (moment : ℕ) → k.world ≡ seen a → k.head.moment ≡ moment
    → IsFirst (λ x. table.is_due moment x ≡ true) a.table None → false ≡ is_some (due k)
has_no_due k a moment world now first =
    ap is_some (sym (due_is_none k a.table (ap (λ (x : World KeptTraffic). x.sessions) world)
    (subst (λ (m : ℕ). IsFirst (λ x. table.is_due m x ≡ true) a.table None) (sym now) first)))
