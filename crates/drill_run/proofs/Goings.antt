-- A drill goes on by a turn, or has come to its end.
use Rattle.std.proofs.Common.{◌≡◌, ℕ, ◌+◌, ◌^◌, ◌<◌, ◌≤◌, List, [], ◌∷◌, ◌++◌, length, Bool, true, false, cond, length-append, arith, refl, sym, ap, subst, ◌∙◌}
use Rattle.std.specs.Prelude.{Some, None}
use Rattle.std.specs.List.{filter}
use Rattle.std.proofs.lemmas.List.Elements.{filter-append}
use Rattle.house_model.specs.declared.event.Event.{Event}
use Rattle.house_model.specs.declared.reply.Reply.{Reply}
use Rattle.house_model.specs.States.{Kept}
use Rattle.house_model.specs.Histories.{Meets, StandsFor, Turn, line_of, made}
use Rattle.house_model.proofs.Turns.{turns-counted, workers_after, workers-kept}
use Rattle.replay_script.specs.Drills.{Follows, IsOrdered, Order, Plan, Tally, house, is_done, is_frame, is_resumed, plan}
use Rattle.replay_script.specs.DrillStands.{IsNext, IsNextBy, Stand, concluded, concluded_by}
use Rattle.drill_run.specs.declared.counts.Counts.{Counts}
use Rattle.drill_run.specs.Courses.{Ended, Going, HaveRoom, counts_of, one_if, with_turn}

-- The turn of the next event.

follows-push : (p mid next : Plan) (h : List Turn) (x : Turn) → Follows p h mid → IsOrdered mid.tallies mid.left x next → Follows p (h ++ x ∷ []) next
follows-push p mid next [] x f o = (next, subst (λ (q : Plan). IsOrdered q.tallies q.left x next) f o, refl)
follows-push p mid next (y ∷ more) x f o = (f.0, f.1, follows-push f.0 mid next more x f.2 o)

ordered-by : (cs : ℕ → Tally) (left : List Order) (e : Event) (r : Reply) (text : List ℕ) → IsNextBy cs left (Some e)
    → IsOrdered cs left (made e r text) (concluded_by cs left r text)
ordered-by cs [] e r text is = absurd is
ordered-by cs (o ∷ more) e r text is = (is.event, refl)

pub follows_on : (p mid : Plan) (s : Stand) (h : List Turn) (e : Event) (r : Reply) (text : List ℕ) → Follows p h mid → IsNext mid (Some e)
    → s ≡ record { asked = true; plan = mid } → Follows p (h ++ made e r text ∷ []) (concluded s r text)
follows_on p mid s h e r text f is stand =
    subst (λ (t : Stand). Follows p (h ++ made e r text ∷ []) (concluded t r text)) (sym stand)
    (follows-push p mid (concluded_by mid.tallies mid.left r text) h (made e r text) f (ordered-by mid.tallies mid.left e r text is))

can-come : (cs : ℕ → Tally) (left : List Order) (e : Event) → IsNextBy cs left (Some e) → Meets e × (line_of e < 8)
can-come cs [] e is = absurd is
can-come cs (o ∷ more) e is = (is.meets, is.line)

pub next_meets : (mid : Plan) (e : Event) → IsNext mid (Some e) → Meets e
next_meets mid e is = (can-come mid.tallies mid.left e is).0

pub next_line : (mid : Plan) (e : Event) (lines : ℕ) → lines ≡ 8 → IsNext mid (Some e) → line_of e < lines
next_line mid e lines eight is = omega (arith, eight, (can-come mid.tallies mid.left e is).1)

-- What is counted.

length-on : (p : Turn → Bool) (h : List Turn) (x : Turn) → length (filter p (h ++ x ∷ [])) ≡ length (filter p h) + one_if (p x)
length-on p h x =
    ap length (filter-append p h (x ∷ [])) ∙ (length-append (filter p h) (filter p (x ∷ [])) ∙ ap (λ n. length (filter p h) + n) (one (p x)))
  where
    one : (b : Bool) → length (cond b (x ∷ []) []) ≡ one_if b
    one true = refl
    one false = refl

counts_on : (h : List Turn) (x : Turn) → counts_of (h ++ x ∷ []) ≡ with_turn x (counts_of h)
counts_on h x =
    ap (λ n. record { stanzas = n; frames = length (filter is_frame (h ++ x ∷ [])); resumed = length (filter is_resumed (h ++ x ∷ [])) }) (length-on is_done h x)
    ∙ (ap (λ n. record { stanzas = length (filter is_done h) + one_if (is_done x); frames = n; resumed = length (filter is_resumed (h ++ x ∷ [])) })
    (length-on is_frame h x)
    ∙ ap (λ n. record {
      stanzas = length (filter is_done h) + one_if (is_done x);
      frames = length (filter is_frame h) + one_if (is_frame x);
      resumed = n;
    }) (length-on is_resumed h x))

few : (p : Turn → Bool) (h : List Turn) → length (filter p h) ≤ length h
few p [] = omega arith
few p (x ∷ more) = by (p x) (few p more)
  where
    by : (b : Bool) → length (filter p more) ≤ length more → length (cond b (x ∷ filter p more) (filter p more)) ≤ length (x ∷ more)
    by true least = omega (arith, least)
    by false least = omega (arith, least)

-- Before the first turn.

pub begins : (n key : ℕ) (k : Kept) (s : Stand) (last : Reply) (frame : List ℕ) (counts : Counts) → StandsFor house [] k
    → s ≡ record { asked = false; plan = plan n key } → counts ≡ counts_of [] → Going n key k s last frame counts 0
begins n key k s last frame counts stands stand counted = record {
  history = [];
  stands = stands;
  follows = ap (λ (t : Stand). concluded t last frame) stand;
  counted = counted;
  many = refl;
}

-- A turn more.

module _ (n key : ℕ) (k : Kept) (s : Stand) (last : Reply) (frame : List ℕ) (counts : Counts) (number : ℕ)
    (g : Going n key k s last frame counts number) where
  pub lines_are : k.head.workers ≡ 8
  lines_are = workers-kept house g.history k g.stands ∙ workers_after house g.history

  pub turns_are : k.head.turns ≡ number
  turns_are = turns-counted house g.history k g.stands ∙ sym g.many

  pub have_room : number < 2 ^ 62 → HaveRoom counts
  have_room low = subst HaveRoom (sym g.counted) (record {
    stanzas = omega (arith, few is_done g.history, g.many, low);
    frames = omega (arith, few is_frame g.history, g.many, low);
    resumed = omega (arith, few is_resumed g.history, g.many, low);
  })

  pub goes_on : (k_now : Kept) (s_now : Stand) (e : Event) (r : Reply) (text : List ℕ) (counts_now : Counts)
      → IsNext (concluded s last frame) (Some e)
      → s_now ≡ record { asked = true; plan = concluded s last frame }
      → ((h : List Turn) → StandsFor house h k → StandsFor house (h ++ made e r text ∷ []) k_now)
      → counts_now ≡ with_turn (made e r text) counts
      → Going n key k_now s_now r text counts_now (number + 1)
  goes_on k_now s_now e r text counts_now next stand stands counted = record {
    history = g.history ++ made e r text ∷ [];
    stands = stands g.history g.stands;
    follows = follows_on (plan n key) (concluded s last frame) s_now g.history e r text g.follows next stand;
    counted = counted ∙ (ap (with_turn (made e r text)) g.counted ∙ sym (counts_on g.history (made e r text)));
    many = omega (arith, g.many, length-append g.history (made e r text ∷ []));
  }

  pub ends : IsNext (concluded s last frame) None → Ended n key k counts
  ends none = record {
    history = g.history;
    stands = g.stands;
    drill = (concluded s last frame, g.follows, none);
    counted = g.counted;
  }
