-- Effects one after another, and those that change nothing.
use Rattle.std.proofs.Common.{◌≡◌, inl, inr, ℕ, ◌+◌, List, [], ◌∷◌, ◌++◌, Bool, true, false, Some, refl, sym, ap, ◌∙◌, arith}
use Rattle.session_table.specs.declared.life.Life.TheVariants.{Live}
use Rattle.session_table.specs.Sessions.{SessionRecord}
use Rattle.session_table.specs.Tables.{conn_of, line_of, session_of}
use Rattle.archive_table.specs.Tables.{archives_of}
use Rattle.house_model.specs.Numbered.{put}
use Rattle.house_model.specs.Sessions.{Held, Tell, Rest, Session, session, step_if, session_step}
use Rattle.house_model.specs.Traffic.{KeptTraffic, brief}
use Rattle.house_model.specs.States.{World}
use Rattle.house_model.specs.Effects.{Effect, On, settled, apply, apply_all}
use Rattle.house_model.proofs.PutLemmas.{put_is}
use Rattle.house_world.specs.declared.world.World as code
use Rattle.house_world.specs.Views.{traffic_of, rest_of, session_by, sessions_of, lines_of}
use Rattle.house_world.specs.Wholes.{IsHeldBy, IsTied}
use Rattle.mark_sets.specs.declared.marks.Marks.{Marks}
use Rattle.house_world.specs.Worlds.{seen, Did, Stays}
use Rattle.house_world.proofs.ReadLemmas.{held_is, seen_with}
use Rattle.house_world.proofs.WorldLemmas.{few_later, moved_same}
use Rattle.house_world.proofs.OffLemmas.{there}
use Rattle.house_world.proofs.BookLemmas.{book_same, book_then}

pub all_then : (world : World KeptTraffic) (es fs : List Effect) → apply_all brief world (es ++ fs) ≡ apply_all brief (apply_all brief world es) fs
all_then world [] fs = refl
all_then world (e ∷ more) fs = all_then (apply brief world e) more fs

pub did_then : (es fs : List Effect) (n m : ℕ) (a b c : code.World) → Did es n a b → Did fs m b c → Did (es ++ fs) (n + m) a c
did_then es fs n m a b c one two = record {
  world = two.world ∙ (ap (λ (x : World KeptTraffic). apply_all brief x fs) one.world ∙ sym (all_then (seen a) es fs));
  tied = two.tied;
  known = λ many users. two.known many (one.known many users);
  few = λ turns few. few_later (turns + n + m) (turns + (n + m)) c.table (two.few (turns + n) (one.few turns few)) (omega arith);
  lines = two.lines ∙ one.lines;
  answered = two.answered ∙ one.answered;
  kept = book_then one.kept two.kept;
}

pub did_none : (a : code.World) → IsTied a.table → Did [] 0 a a
did_none a tied = record {
  world = refl;
  tied = tied;
  known = λ many users. users;
  few = λ turns few. few_later turns (turns + 0) a.table few (omega arith);
  lines = refl;
  answered = refl;
  kept = book_same;
}

pub put_same : {A : Type 0} (k : ℕ) (v : A) (f : ℕ → A) → v ≡ f k → put k v f ≡ f
put_same k v f is = λ i x. at x i
  where
    at : (x : ℕ) → put k v f x ≡ f x
    at x = elim (put_is k v f x) [ inl p ↦ p.1 ∙ (is ∙ ap f (sym p.0)) | inr p ↦ p.1 ]

tell_is : (b : Bool) (v d : ℕ) (k : KeptTraffic) (r : Rest) → step_if brief b (Held v d) k r Tell ≡ session b (Held v d) k r
tell_is true v d k r = refl
tell_is false v d k r = refl

pub tell_did : (a : code.World) (w s : ℕ) → IsTied a.table → IsHeldBy w s a.table → Did (On s Tell ∷ []) 0 a a
tell_did a w s tied held =
    let t = a.table in
    let who = there (λ (x : SessionRecord). (x.state ≡ Live) × (x.holder ≡ Some w)) (session_of s t) held in
    let x : SessionRecord = who.0 in
    let c = conn_of (line_of w t) in
    let is : sessions_of t s ≡ session x.counts (Held w c) (traffic_of x) (rest_of x) =
    ap (session_by t.lines) who.1 ∙ seen_with x t.lines (Held w c) (held_is x.state x.holder t.lines w who.2.0 who.2.1) in
    let step : session_step brief (sessions_of t s) Tell ≡ session x.counts (Held w c) (traffic_of x) (rest_of x) =
    ap (λ (o : Session KeptTraffic). session_step brief o Tell) is ∙ tell_is x.counts w c (traffic_of x) (rest_of x) in
    let none = did_none a tied in
    record {
      world = λ i. record {
        opened = t.opened;
        book = a.book.book;
        rooms = a.rooms;
        archives = archives_of a.archives;
        lines = sym ((λ j. settled s (is j).hold (step j).hold (lines_of t a.answers.items)) ∙ moved_same s w c (lines_of t a.answers.items)) i;
        made = t.made;
        sessions = sym (put_same s (session_step brief (sessions_of t s) Tell) (sessions_of t) (step ∙ sym is)) i;
      };
      tied = tied;
      known = none.known;
      few = none.few;
      lines = refl;
      answered = refl;
      kept = book_same;
    }

-- Which lines may have something to pull is seen by nothing.

pub did_beside : (es : List Effect) (n : ℕ) (a b : code.World) (x : Marks) → Did es n a b → Did es n a (record b { stirred = x })
did_beside es n a b x did = record {
  world = did.world;
  tied = did.tied;
  known = did.known;
  few = did.few;
  lines = did.lines;
  answered = did.answered;
  kept = did.kept;
}

pub stays_beside : (a b : code.World) (x : Marks) → Stays a b → Stays a (record b { stirred = x })
stays_beside a b x stays = record { logged = stays.logged; there = stays.there; over = stays.over; spare = stays.spare }
