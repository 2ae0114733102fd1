-- Each kind of step keeps the rule.
use Rattle.std.proofs.Common.{◌≡◌, ◌≢◌, ◌⊎◌, ℕ, ◌+◌, ◌%◌, ◌^◌, ◌<◌, ◌≤◌, Bool, true, false, cond, eqb, List, [], ◌∷◌, ◌++◌}
use Rattle.std.proofs.Common.{length, get_or, set, sym, refl, ap, ◌∙◌, subst, inl, inr, ⊎_elim, arith, length-set}
use Rattle.std.proofs.Common.{get_or-set_same, get_or-set_other, eq-eqb, ne_eqb, length-append, Some, None}
use Rattle.std.proofs.lemmas.List.{get_or_default}
use Rattle.std.specs.Prelude.{Option}
use mathlib.Core.Logic.{dite}
use mathlib.Core.Option.{Option as Home, none, some, some-injective}
use native.Mathlib.Decide.{ℕ_discrete, dec_le}
use lib.ListN.{get_elem?}
use Rattle.atomic_table.specs.Table.{State, Me, step, keeps, takes, gives, stepped, put_back, rest, Allows, Splits, Joins, opening}
use Rattle.atomic_table.proofs.Lists.{at_set, at_index, set_again, set_else, set_here, at_snoc, at_longer}
use Rattle.turn_lock.specs.declared.rule.Claim.{Claim}
use Rattle.turn_lock.specs.declared.rule.Stage.{Stage}
use Rattle.turn_lock.specs.declared.rule.Stage.TheVariants.{Idle, MayDraw, Waits, Works}
use Rattle.turn_lock.specs.declared.rule.View.{View}
use Rattle.turn_lock.specs.Views.{ticket_of, has_value, tickets, leaves, bit, either_of, total, claim, times, fresh, resting, spent, taken_in}
use Rattle.turn_lock.specs.Histories.{Each, StartsWith, IsStory, places, Knows, IsHome, IsOut, Kept, Sound}
use Rattle.turn_lock.specs.Steps.{peeked, drew, looked, passed_on}
use Rattle.turn_lock.proofs.Sums.{true_or_false, set_present, only_one, total-append, total-set, one_within, two_within, total-alone}
use Rattle.turn_lock.proofs.Sums.{total-le, bit_same, times_of_none, length-fresh, fresh_with, fresh_without}
use Rattle.turn_lock.proofs.Stories.{each_map, each_append, each_left, each_right}
use Rattle.turn_lock.proofs.Stories.{starts_itself, starts_longer, starts_nothing, starts_before, length-starts}
use Rattle.turn_lock.proofs.Stories.{places_of_own, claims_of_others, fresh_are_right}

at_least : (m n : ℕ) → (m ≤ n) ⊎ (n < m)
at_least m n = dite (dec_le m n) (λ yes. inl yes) (λ no. inr (omega arith))

waits_or_not : (stage : Stage) (n : ℕ) → (stage ≡ Waits n) ⊎ (stage ≢ Waits n)
waits_or_not Idle n = inr (λ same. cc)
waits_or_not MayDraw n = inr (λ same. cc)
waits_or_not (Waits t) n = dite (ℕ_discrete t n) (λ same. inl (ap Waits same)) (λ apart. inr (λ same. let is : t ≡ n = cc in absurd (apart is)))
waits_or_not (Works t) n = inr (λ same. cc)

either : (a b : Bool) (P : Type 0) → (a ≡ true → P) → (b ≡ true → P) → either_of a b ≡ true → P
either a true P left right both = right refl
either a false P left right both = left both

-- who drew the ticket t, once the seat drew the ticket n
abbrev drawer_after : (ℕ → ℕ) → ℕ → ℕ → ℕ → ℕ
drawer_after drawer n seat t = cond (eqb t n) seat (drawer t)

drawn_now : (drawer : ℕ → ℕ) (n seat t : ℕ) → t ≡ n → drawer_after drawer n seat t ≡ seat
drawn_now drawer n seat t same = ap (λ (b : Bool). cond b seat (drawer t)) (eq-eqb t n same)

drawn_before : (drawer : ℕ → ℕ) (n seat t : ℕ) → t ≢ n → drawer_after drawer n seat t ≡ drawer t
drawn_before drawer n seat t apart = ap (λ (b : Bool). cond b seat (drawer t)) (ne_eqb t n apart)

module _ {T E R : Type 0} (story : T → List E) (line : E → ℕ) (root : T → R) (r : R) (passes : ℕ) where
  abbrev V : Type 0
  V = View E R

  abbrev M : Type 0
  M = Me (Option T) V

  abbrev St : Type 0
  St = State (Option T) V

  abbrev K : St → Type 0
  K = Kept story line root r passes

  abbrev Kn : List E → (ℕ → ℕ) → ℕ → ℕ → V → Type 0
  Kn = Knows story line root r

  abbrev Right : List E → Claim → Type 0
  Right log c = places line c.number 0 log ≡ c.places

  abbrev Placed : List E → List ℕ → List (Home (Option T)) → List V → Type 0
  Placed log ws hs vs = IsHome story line root r log record { words = ws; homes = hs; views = vs }
      ⊎ IsOut story line root record { words = ws; homes = hs; views = vs }

  named : (log : List E) (drawer : ℕ → ℕ) (next j : ℕ) (v : V) (q : R) → Kn log drawer next j v → v.root ≡ Some q → v.root ≡ Some r
  named log drawer next j v q k is = ⊎_elim (λ yes. yes) (λ gone. let clash : None ≡ Some q = sym (ap (λ (z : V). z.root) gone) ∙ is in cc) k.rooted

  root-named : (v : V) (q : R) → v.root ≡ Some r → v.root ≡ Some q → q ≡ r
  root-named v q its is = let both : Some q ≡ Some r = sym is ∙ its in cc

  -- a story from the rule's root is one from the root that the view names
  named_story : (v : V) (l : List E) → v.root ≡ Some r → IsStory story root r l
      → (q : R) → v.root ≡ Some q → IsStory story root q l
  named_story v l its told q is = (told.0, told.1, told.2 ∙ sym (root-named v q its is))

  -- what a step of another seat may do, as the view v sees it
  record Beside (log log' : List E) (drawer drawer' : ℕ → ℕ) (next next' : ℕ) (v : V) : Type 0 where
    grows : (s : List E) → StartsWith log s → StartsWith log' s
    up : next ≤ next'
    same : (t : ℕ) → t < next → drawer' t ≡ drawer t
    late : (t : ℕ) → ticket_of v.stage ≡ Some t → length log' ≤ t
    still : has_value v.stage ≡ true → log ≡ log'
    right : Each (Right log') v.claims

  unaffected : (log log' : List E) (drawer drawer' : ℕ → ℕ) (next next' j : ℕ) (v : V) → Kn log drawer next j v → Beside log log' drawer drawer' next next' v
      → Kn log' drawer' next' j v
  unaffected log log' drawer drawer' next next' j v k b =
      let up = b.up in record {
        rooted = k.rooted;
        seen = b.grows v.seen k.seen;
        met = each_map (StartsWith log) (StartsWith log') b.grows v.met k.met;
        ticket = λ t is. let had = k.ticket t is in (b.late t is, omega arith, b.same t had.1 ∙ had.2);
        turn = λ works. subst (λ (l : List E). (ticket_of v.stage ≡ Some (length l)) × (v.seen ≡ l)) (b.still works) (k.turn works);
        refused = λ yes. let had = k.refused yes in omega arith;
        drawn = let had = k.drawn in omega arith;
        claims = b.right;
        able = k.able;
      }

  same_history : (log : List E) (drawer drawer' : ℕ → ℕ) (next next' j : ℕ) (v : V) → Kn log drawer next j v → next ≤ next'
      → ((t : ℕ) → t < next → drawer' t ≡ drawer t) → Beside log log drawer drawer' next next' v
  same_history log drawer drawer' next next' j v k up same = record {
    grows = λ s h. h;
    up = up;
    same = same;
    late = λ t is. (k.ticket t is).0;
    still = λ works. refl;
    right = k.claims;
  }

  -- a step by which the view of the seat id goes from v to w
  record Move (s : St) (k : K s) (id : ℕ) (v w : V) (s' : St) : Type 0 where
    log : List E
    drawer : ℕ → ℕ
    words : length s'.words ≡ 2
    slots : length s'.homes ≡ 1
    views : s'.views ≡ set s.views id w
    served : get_or s'.words 1 0 ≡ length log
    sum : get_or s'.words 0 0 + tickets v.stage + length k.log ≡ get_or s.words 0 0 + tickets w.stage + length log
    low : 2 ^ 63 ≤ get_or s'.words 0 0 → get_or s'.words 0 0 + (total (λ u. leaves u.stage) s.views + leaves w.stage) ≤ 2 ^ 63 + passes + leaves v.stage
    size : length w.claims ≡ length v.claims
    count : (n : ℕ) → times n w.claims ≡ times n v.claims
    told : (l : List E) → StartsWith log l → IsStory story root r l
    lines : Each (λ e. line e < passes) log
    own : Kn log drawer (get_or s'.words 0 0) id w
    others : (j : ℕ) (u : V) → get_elem? s.views j ≡ some u → j ≢ id → Beside k.log log k.drawer drawer (get_or s.words 0 0) (get_or s'.words 0 0) u
    value : IsHome story line root r log s' ⊎ IsOut story line root s'

  moved : (s : St) (k : K s) (id : ℕ) (v w : V) (s' : St) → get_elem? s.views id ≡ some v → Move s k id v w s' → K s'
  moved s k id v w s' at m =
      let sums : (f : V → ℕ) → total f s'.views + f v ≡ total f s.views + f w = λ f. ap (λ (l : List V). total f l + f v) m.views
      ∙ total-set f s.views id v w at in record {
        log = m.log;
        drawer = m.drawer;
        words = m.words;
        slots = m.slots;
        few = k.few;
        served = m.served;
        next = let a = sums (λ u. tickets u.stage) in let b = m.sum in let c = k.next in omega arith;
        low = λ high. let a = sums (λ u. leaves u.stage) in let b = m.low high in omega arith;
        spread = let a = sums (λ u. length u.claims) in let b = m.size in let c = k.spread in omega arith;
        once = λ n. let a = sums (λ u. times n u.claims) in let b = m.count n in let had = k.once n in
            ((λ h. let c = had.0 h in omega arith), (λ h. let c = had.1 h in omega arith));
        told = m.told;
        lines = m.lines;
        each = λ j u at'. ⊎_elim
            (λ here. subst (λ (z : ℕ × V). Kn m.log m.drawer (get_or s'.words 0 0) z.0 z.1) (λ i. (sym here.0 i, here.1 i)) m.own)
            (λ there. unaffected k.log m.log k.drawer m.drawer (get_or s.words 0 0) (get_or s'.words 0 0) j u (k.each j u there.1)
            (m.others j u there.1 there.0))
            (at_set s.views id j w u (sym (ap (λ (l : List V). get_elem? l j) m.views) ∙ at'));
        value = m.value;
      }

  -- the value stays where it is, where the seat that steps hasn't it
  stays : (s : St) (k : K s) (id : ℕ) (v w : V) (ws : List ℕ) → get_elem? s.views id ≡ some v → has_value v.stage ≡ false → has_value w.stage ≡ false
      → Placed k.log ws s.homes (set s.views id w)
  stays s k id v w ws at free free' = ⊎_elim
      (λ home. inl (
        home.0,
        home.1,
        home.2,
        home.3,
        λ j u at'.
            ⊎_elim (λ here. sym (ap (λ (z : V). has_value z.stage) here.1) ∙ free') (λ there. home.4 j u there.1) (at_set s.views id j w u at'),
      ))
      (λ out.
      let apart : out.0 ≢ id = λ same.
      let is : some out.1 ≡ some v = sym out.2 ∙ (ap (get_elem? s.views) same ∙ at) in
      let clash : true ≡ false = sym out.3 ∙ (ap (λ (z : V). has_value z.stage) (some-injective out.1 v is) ∙ free) in cc in
      inr (out.0, out.1, set_else s.views id out.0 w apart ∙ out.2, out.3))
      k.value

  -- a load, which changes no word
  record Load (s : St) (k : K s) (id : ℕ) (v w : V) (hs : List (Home (Option T))) : Type 0 where
    slots : length hs ≡ 1
    tickets_same : tickets w.stage ≡ tickets v.stage
    leaves_low : 2 ^ 63 ≤ get_or s.words 0 0 → leaves w.stage ≤ leaves v.stage
    claims_same : w.claims ≡ v.claims
    own : Kn k.log k.drawer (get_or s.words 0 0) id w
    value : Placed k.log s.words hs (set s.views id w)

  loaded : (s : St) (k : K s) (id : ℕ) (v w : V) (hs : List (Home (Option T))) (i : ℕ) → i < 2 → get_elem? s.views id ≡ some v → Load s k id v w hs
      → K record { words = set s.words i (get_or s.words i 0); homes = hs; views = set s.views id w }
  loaded s k id v w hs i small at l =
      let n : ℕ = get_or s.words i 0 in
      let size = k.words in
      let again : set s.words i n ≡ s.words = set_again s.words i n (at_index s.words i n (omega arith) (get_or_default s.words i 0 n (omega arith))) in
      subst (λ (ws : List ℕ). K record { words = ws; homes = hs; views = set s.views id w }) (sym again)
      (moved s k id v w record { words = s.words; homes = hs; views = set s.views id w } at record {
        log = k.log;
        drawer = k.drawer;
        words = k.words;
        slots = l.slots;
        views = refl;
        served = k.served;
        sum = let a = l.tickets_same in omega arith;
        low = λ high. let a = l.leaves_low high in let b = k.low high in omega arith;
        size = ap length l.claims_same;
        count = λ m. ap (times m) l.claims_same;
        told = k.told;
        lines = k.lines;
        own = l.own;
        others = λ j u at' apart. same_history k.log k.drawer k.drawer (get_or s.words 0 0) (get_or s.words 0 0) j u (k.each j u at') (omega arith)
            (λ t h. refl);
        value = l.value;
      })

  -- at most one leave a pass, so no ticket comes near the end of a word
  leaves-le : (s : St) (k : K s) → total (λ u. leaves u.stage) s.views ≤ passes
  leaves-le s k =
      let a = total-le (λ u. leaves u.stage) (λ u. length u.claims) s.views (λ j u at. let b = (k.each j u at).able in omega arith) in
      let b = k.spread in
      omega arith

  next-lt : (s : St) (k : K s) → get_or s.words 0 0 < 2 ^ 63 + 2 ^ 32
  next-lt s k = let few = k.few in ⊎_elim (λ high. let a = k.low high in omega arith) (λ low. omega arith) (at_least (2 ^ 63) (get_or s.words 0 0))

  pub peeks : (slots id : ℕ) (me : M) (q : R) → me.0.root ≡ Some q → me.0.stage ≡ Idle → 1 ≤ length me.0.claims
      → Allows K slots id me 0 (λ n. n) (peeked story root (step slots 0 0 0 none) me)
  peeks slots id me q is idle numbered s k _ at _ =
      let n : ℕ = get_or s.words 0 0 in
      let v : V = me.0 in
      let own = k.each id v at in
      let rooted = named k.log k.drawer (get_or s.words 0 0) id v q own is in
      let free : has_value v.stage ≡ false = ap has_value idle in
      let no_ticket : tickets v.stage ≡ 0 = ap tickets idle in
      let known : v.drawn ≤ n = own.drawn in
      let sight : length v.seen ≤ n = let a = length-starts k.log v.seen own.seen in let b = k.next in omega arith in
      let told = named_story v v.seen rooted (k.told v.seen own.seen) in
      ⊎_elim
      (λ high. let w : V = record v { refused = true; drawn = n } in (
        w,
        keeps,
        tt,
        loaded s k id v w s.homes 0 (omega arith) at record {
          slots = k.slots;
          tickets_same = refl;
          leaves_low = λ h. omega arith;
          claims_same = refl;
          own = record {
            rooted = inl rooted;
            seen = own.seen;
            met = own.met;
            ticket = own.ticket;
            turn = own.turn;
            refused = λ yes. high;
            drawn = omega arith;
            claims = own.claims;
            able = own.able;
          };
          value = stays s k id v w s.words at free free;
        },
        ((λ low. absurd (omega arith)), (λ h. refl), known, sight, told),
      ))
      (λ low.
      let unmarked : v.refused ≡ false =
      ⊎_elim (λ yes. let late = own.refused yes in absurd (omega arith)) (λ no. no) (true_or_false v.refused) in
      let w : V = record v { stage = MayDraw; drawn = n } in (
        w,
        keeps,
        tt,
        loaded s k id v w s.homes 0 (omega arith) at record {
          slots = k.slots;
          tickets_same = sym no_ticket;
          leaves_low = λ high. absurd (omega arith);
          claims_same = refl;
          own = record {
            rooted = inl rooted;
            seen = own.seen;
            met = own.met;
            ticket = λ t is. cc;
            turn = λ works. cc;
            refused = own.refused;
            drawn = omega arith;
            claims = own.claims;
            able = omega arith;
          };
          value = stays s k id v w s.words at free refl;
        },
        (
          (λ h. (refl, unmarked)),
          (λ high. absurd (omega arith)),
          known,
          sight,
          told,
        ),
      ))
      (at_least (2 ^ 63) n)

  pub draws : (slots id : ℕ) (me : M) (q : R) → me.0.root ≡ Some q → me.0.stage ≡ MayDraw
      → Allows K slots id me 0 (λ n. (n + 1) % 2 ^ 64) (drew (step slots 0 1 0 none) me)
  draws slots id me q is may s k _ at _ =
      let n : ℕ = get_or s.words 0 0 in
      let m : ℕ = (n + 1) % 2 ^ 64 in
      let v : V = me.0 in
      let w : V = record v { stage = Waits n } in
      let own = k.each id v at in
      let rooted = named k.log k.drawer (get_or s.words 0 0) id v q own is in
      let size = k.words in
      let bound = next-lt s k in
      let up : m ≡ n + 1 = omega arith in
      let first : get_or (set s.words 0 m) 0 0 ≡ n + 1 = get_or-set_same s.words 0 m 0 (omega arith) ∙ up in
      let second : get_or (set s.words 0 m) 1 0 ≡ get_or s.words 1 0 = get_or-set_other s.words 0 1 m 0 (λ same. omega arith) in
      let no_ticket : tickets v.stage ≡ 0 = ap tickets may in
      let leave : leaves v.stage ≡ 1 = ap leaves may in
      let room = own.able in
      let next = k.next in (
        w,
        keeps,
        tt,
        moved s k id v w (stepped s 0 m id me.1 w keeps) at record {
          log = k.log;
          drawer = drawer_after k.drawer n id;
          words = length-set s.words 0 m ∙ k.words;
          slots = k.slots;
          views = refl;
          served = second ∙ k.served;
          sum = omega arith;
          low = λ h. ⊎_elim (λ high. let a = k.low high in omega arith) (λ low. let a = leaves-le s k in omega arith) (at_least (2 ^ 63) n);
          size = refl;
          count = λ i. refl;
          told = k.told;
          lines = k.lines;
          own = subst (λ (z : ℕ). Kn k.log (drawer_after k.drawer n id) z id w) (sym first) record {
            rooted = inl rooted;
            seen = own.seen;
            met = own.met;
            ticket = λ t is. let same : n ≡ t = cc in (omega arith, omega arith, drawn_now k.drawer n id t (sym same));
            turn = λ works. cc;
            refused = λ yes. let a = own.refused yes in omega arith;
            drawn = let a = own.drawn in omega arith;
            claims = own.claims;
            able = omega arith;
          };
          others = λ j u at' apart. same_history k.log k.drawer (drawer_after k.drawer n id) n (get_or (set s.words 0 m) 0 0) j u (k.each j u at') (omega arith)
              (λ t h. drawn_before k.drawer n id t (λ same. absurd (omega arith)));
          value = stays s k id v w (set s.words 0 m) at (ap has_value may) refl;
        },
        refl,
      )

  pub looks : (slots id : ℕ) (me : M) (q : R) → me.0.root ≡ Some q → has_value me.0.stage ≡ false
      → Allows K slots id me 1 (λ n. n) (looked story line root (step slots 1 0 0 none) me)
  looks slots id me q is free s k _ at _ =
      let n : ℕ = get_or s.words 1 0 in
      let v : V = me.0 in
      let own = k.each id v at in
      let rooted = named k.log k.drawer (get_or s.words 0 0) id v q own is in
      let told = named_story v k.log rooted (k.told k.log (starts_itself k.log)) in
      ⊎_elim
      (λ waits.
      let ticket : ticket_of v.stage ≡ Some n = ap ticket_of waits in
      let had = own.ticket n ticket in
      let bound = next-lt s k in
      let served = k.served in
      ⊎_elim
      (λ home.
      let x : T = home.0 in
      let w : V = record v { stage = Works n; seen = k.log; met = [] } in (
        w,
        takes 0 (Some x),
        home.1,
        loaded s k id v w (set s.homes 0 none) 1 (omega arith) at record {
          slots = length-set s.homes 0 none ∙ k.slots;
          tickets_same = sym (ap tickets waits);
          leaves_low = λ h. omega arith;
          claims_same = refl;
          own = record {
            rooted = inl rooted;
            seen = starts_itself k.log;
            met = tt;
            ticket = λ t is. own.ticket t (ticket ∙ is);
            turn = λ works. (ap (λ (z : ℕ). Some z) served, refl);
            refused = own.refused;
            drawn = own.drawn;
            claims = own.claims;
            able = let a = own.able in let b : tickets v.stage ≡ 1 = ap tickets waits in omega arith;
          };
          value = inr (id, w, set_present s.views id w v at, refl);
        },
        (
          k.log,
          own.seen,
          own.met,
          own.claims,
          (λ _. (x, refl, home.2, (λ z its. home.3 ∙ sym (root-named v z rooted its)), omega arith)),
          (λ not. absurd (not waits)),
          told,
        ),
      ))
      (λ out.
      let its = k.each out.0 out.1 out.2 in
      let its_turn = its.turn out.3 in
      let same_seat : out.0 ≡ id = sym (its.ticket n (its_turn.0 ∙ ap (λ (z : ℕ). Some z) (sym served))).2 ∙ had.2 in
      let same_view : some out.1 ≡ some v = sym out.2 ∙ (ap (get_elem? s.views) same_seat ∙ at) in
      let clash : true ≡ false = sym out.3 ∙ (ap (λ (z : V). has_value z.stage) (some-injective out.1 v same_view) ∙ free) in cc)
      k.value)
      (λ not. let w : V = record v { seen = k.log; met = [] } in (
        w,
        keeps,
        tt,
        loaded s k id v w s.homes 1 (omega arith) at record {
          slots = k.slots;
          tickets_same = refl;
          leaves_low = λ h. omega arith;
          claims_same = refl;
          own = record {
            rooted = inl rooted;
            seen = starts_itself k.log;
            met = tt;
            ticket = own.ticket;
            turn = λ works. let clash : true ≡ false = sym works ∙ free in cc;
            refused = own.refused;
            drawn = own.drawn;
            claims = own.claims;
            able = own.able;
          };
          value = stays s k id v w s.words at free free;
        },
        (k.log, own.seen, own.met, own.claims, (λ waits. absurd (not waits)), (λ _. refl), told),
      ))
      (waits_or_not v.stage n)

  -- a number that a view has is a pass's, and no other view has it
  alone_with : (s : St) (k : K s) (id : ℕ) (v : V) (i : ℕ) → get_elem? s.views id ≡ some v → times i v.claims ≡ 1
      → (i < passes) × ((j : ℕ) (u : V) → get_elem? s.views j ≡ some u → j ≢ id → times i u.claims ≡ 0)
  alone_with s k id v i at has =
      let had = k.once i in
      let here = one_within (λ (u : V). times i u.claims) s.views id v at in (
        ⊎_elim (λ high. let none_has = had.1 high in absurd (omega arith)) (λ low. low) (at_least passes i),
        λ j u at' apart. let both = two_within (λ (z : V). times i z.claims) s.views id j v u at at' apart in
            ⊎_elim (λ high. let none_has = had.1 high in omega arith) (λ low. let one_has = had.0 low in omega arith) (at_least passes i),
      )

  pub passes_on : (slots id t : ℕ) (me : M) (x : T) (e : E) (c : Claim) (q : R) → me.0.stage ≡ Works t → me.1 ≡ (0, Some x) ∷ [] → me.0.claims ≡ c ∷ []
      → story x ≡ me.0.seen ++ e ∷ [] → line e ≡ c.number → me.0.root ≡ Some q → root x ≡ q
      → Allows K slots id me 1 (λ n. (n + 1) % 2 ^ 64) (passed_on story line (step slots 1 1 0 none) me)
  passes_on slots id t me x e c q works carried claims adds its_line rooted same_root s k _ at _ =
      let v : V = me.0 in
      let i : ℕ = c.number in
      let n : ℕ = get_or s.words 1 0 in
      let m : ℕ = (n + 1) % 2 ^ 64 in
      let own_places : List ℕ = c.places ++ length v.seen ∷ [] in
      let w : V = record v { stage = Idle; seen = story x; claims = claim i own_places ∷ [] } in
      let own = k.each id v at in
      let turn = own.turn (ap has_value works) in
      let had = own.ticket (length k.log) turn.0 in
      let served = k.served in
      let next = k.next in
      let bound = next-lt s k in
      let size = k.words in
      let one_ticket : tickets v.stage ≡ 1 = ap tickets works in
      let no_leave : leaves v.stage ≡ 0 = ap leaves works in
      let log : story x ≡ k.log ++ e ∷ [] = adds ∙ ap (λ (l : List E). l ++ e ∷ []) turn.1 in
      let its_root : root x ≡ r =
      same_root ∙ root-named v q (named k.log k.drawer (get_or s.words 0 0) id v q own rooted) rooted in
      let long : length (story x) ≡ length k.log + 1 = ap length log ∙ length-append k.log (e ∷ []) in
      let up : m ≡ n + 1 = omega arith in
      let first : get_or (set s.words 1 m) 0 0 ≡ get_or s.words 0 0 = get_or-set_other s.words 1 0 m 0 (λ same. omega arith) in
      let second : get_or (set s.words 1 m) 1 0 ≡ m = get_or-set_same s.words 1 m 0 (omega arith) in
      let homes : List (Home (Option T)) = put_back s.homes me.1 in
      let put : homes ≡ set s.homes 0 (some (Some x)) = ap (put_back s.homes) carried in
      let room = k.slots in
      let at_home : get_elem? homes 0 ≡ some (some (Some x)) = ap (λ (l : List (Home (Option T))). get_elem? l 0) put
      ∙ set_here s.homes 0 (some (Some x)) (omega arith) in
      let slots_kept : length homes ≡ 1 = ap length put ∙ (length-set s.homes 0 (some (Some x)) ∙ k.slots) in
      let size_v : length v.claims ≡ 1 = ap length claims in
      let has : times i v.claims ≡ 1 = let a : times i v.claims ≡ times i (c ∷ []) = ap (times i) claims in let b = bit_same i i refl in omega arith in
      let number = alone_with s k id v i at has in
      let before : places line i 0 k.log ≡ c.places = (subst (Each (Right k.log)) claims own.claims).0 in
      let right : places line i 0 (story x) ≡ own_places =
      ap (places line i 0) log ∙ (places_of_own line i k.log e its_line
      ∙ (ap (λ (l : List ℕ). l ++ length k.log ∷ []) before ∙ ap (λ (l : List E). c.places ++ length l ∷ []) (sym turn.1))) in
      let longer : (l : List E) → StartsWith k.log l
      → StartsWith (story x) l = λ l h. subst (λ (z : List E). StartsWith z l) (sym log) (starts_longer k.log (e ∷ []) l h) in
      let not_served : (j : ℕ) (u : V) → get_elem? s.views j ≡ some u → j ≢ id → ticket_of u.stage ≢ Some (length k.log) =
      λ j u at' apart same. apart (sym ((k.each j u at').ticket (length k.log) same).2 ∙ had.2) in (
        w,
        gives,
        tt,
        moved s k id v w (stepped s 1 m id me.1 w gives) at record {
          log = story x;
          drawer = k.drawer;
          words = length-set s.words 1 m ∙ k.words;
          slots = slots_kept;
          views = refl;
          served = second ∙ (up ∙ (ap (λ (z : ℕ). z + 1) served ∙ sym long));
          sum = omega arith;
          low = λ high. let a = k.low (omega arith) in omega arith;
          size = sym size_v;
          count = λ z. ap (times z) (sym claims);
          told = λ l h. ⊎_elim
              (λ old. k.told l old)
              (λ all. (x, log ∙ all, its_root))
              (starts_before k.log e l (subst (λ (z : List E). StartsWith z l) log h));
          lines = subst (Each (λ y. line y < passes)) (sym log)
              (each_append (λ y. line y < passes) k.log (e ∷ []) k.lines (let a = number.0 in omega arith, tt));
          own = subst (λ (z : ℕ). Kn (story x) k.drawer z id w) (sym first) record {
            rooted = inl (named k.log k.drawer (get_or s.words 0 0) id v q own rooted);
            seen = starts_itself (story x);
            met = each_map (StartsWith k.log) (StartsWith (story x)) longer v.met own.met;
            ticket = λ z is. cc;
            turn = λ is. cc;
            refused = own.refused;
            drawn = own.drawn;
            claims = (right, tt);
            able = omega arith;
          };
          others = λ j u at' apart. let its = k.each j u at' in record {
            grows = longer;
            up = omega arith;
            same = λ z h. refl;
            late = λ z is. let a = its.ticket z is in let later : z ≢ length k.log =
                λ same. not_served j u at' apart (is ∙ ap (λ (y : ℕ). Some y) same) in omega arith;
            still = λ is. absurd (not_served j u at' apart (its.turn is).0);
            right = subst (λ (l : List E). Each (Right l) u.claims) (sym log)
                (claims_of_others line k.log e u.claims (ap (λ (y : ℕ). times y u.claims) its_line ∙ number.1 j u at' apart) its.claims);
          };
          value = inl (
            x,
            at_home,
            refl,
            its_root,
            λ j u at'. ⊎_elim
                (λ here. sym (ap (λ (z : V). has_value z.stage) here.1))
                (λ there. ⊎_elim (λ yes. absurd (not_served j u there.1 there.0 ((k.each j u there.1).turn yes).0)) (λ no. no)
                (true_or_false (has_value u.stage)))
                (at_set s.views id j w u at'),
          );
        },
        λ y d is is'.
            let value_of : List (ℕ × Option T) → Option T = λ l. elim l [ [] ↦ None | z ∷ zs ↦ z.1 ] in
            let claim_of : List Claim → Claim = λ l. elim l [ [] ↦ c | z ∷ zs ↦ z ] in
            let one_value : ◌≡◌ {A = Option T} (Some x) (Some y) = ap value_of (sym carried ∙ is) in
            let same_value : x ≡ y = cc in
            let same_claim : c ≡ d = ap claim_of (sym claims ∙ is') in
            let empty : rest me.1 ≡ [] = ap rest carried in
            subst (λ (z : T × Claim).
            (◌≡◌ {A = M} (w, rest me.1)
            (record v { stage = Idle; seen = story z.0; claims = claim z.1.number (z.1.places ++ length v.seen ∷ []) ∷ [] }, []))
            × (places line z.1.number 0 (story z.0) ≡ z.1.places ++ length v.seen ∷ []))
            (λ j. (same_value j, same_claim j))
            ((λ j. (w, empty j)), right),
      )

  -- a split: the new view has the claims b, which the first one gives up
  pub splits : (id : ℕ) (v : V) (a b : List Claim) (q : R) → v.root ≡ Some q → v.claims ≡ b ++ a → v.stage ≡ Idle
      → Splits K id v (record v { claims = a }) (resting v.root false v.drawn b v.seen)
  splits id v a b q is parts idle s k at =
      let l : V = record v { claims = a } in
      let n : V = resting v.root false v.drawn b v.seen in
      let own = k.each id v at in
      let rooted = named k.log k.drawer (get_or s.words 0 0) id v q own is in
      let free : has_value v.stage ≡ false = ap has_value idle in
      let no_ticket : tickets v.stage ≡ 0 = ap tickets idle in
      let no_leave : leaves v.stage ≡ 0 = ap leaves idle in
      let sums : (f : V → ℕ) → total f (set s.views id l ++ n ∷ []) + f v ≡ total f s.views + f l + f n =
      λ f. let x = total-append f (set s.views id l) (n ∷ []) in let y = total-set f s.views id v l at in omega arith in
      let size : length v.claims ≡ length b + length a = ap length parts ∙ length-append b a in
      let claims = subst (Each (Right k.log)) parts own.claims in record {
        log = k.log;
        drawer = k.drawer;
        words = k.words;
        slots = k.slots;
        few = k.few;
        served = k.served;
        next = let x = sums (λ u. tickets u.stage) in let y = k.next in omega arith;
        low = λ high. let x = sums (λ u. leaves u.stage) in let y = k.low high in omega arith;
        spread = let x = sums (λ u. length u.claims) in let y = k.spread in omega arith;
        once = λ i. let x = sums (λ u. times i u.claims) in let had = k.once i in let p : times i v.claims ≡ times i b + times i a = ap (times i) parts
            ∙ total-append (λ c. bit (eqb c.number i)) b a in
            ((λ h. let y = had.0 h in omega arith), (λ h. let y = had.1 h in omega arith));
        told = k.told;
        lines = k.lines;
        each = λ j u at'. ⊎_elim
            (λ old. ⊎_elim
            (λ here. subst (λ (z : ℕ × V). Kn k.log k.drawer (get_or s.words 0 0) z.0 z.1) (λ i. (sym here.0 i, here.1 i)) record {
              rooted = inl rooted;
              seen = own.seen;
              met = own.met;
              ticket = own.ticket;
              turn = own.turn;
              refused = own.refused;
              drawn = own.drawn;
              claims = each_right (Right k.log) b a claims;
              able = omega arith;
            })
            (λ there. k.each j u there.1)
            (at_set s.views id j l u old))
            (λ new. subst (λ (z : V). Kn k.log k.drawer (get_or s.words 0 0) j z) new record {
              rooted = inl rooted;
              seen = own.seen;
              met = tt;
              ticket = λ t is. cc;
              turn = λ is. cc;
              refused = λ is. cc;
              drawn = own.drawn;
              claims = each_left (Right k.log) b a claims;
              able = omega arith;
            })
            (at_snoc (set s.views id l) n u j at');
        value = ⊎_elim
            (λ home. inl (
              home.0,
              home.1,
              home.2,
              home.3,
              λ j u at'. ⊎_elim
                  (λ old. home.4 j u old)
                  (λ new. sym (ap (λ (z : V). has_value z.stage) new))
                  (at_snoc (set s.views id l) n u j at'),
            ))
            (λ out. inr (out.0, out.1, at_longer (set s.views id l) (n ∷ []) out.0 out.1 out.2, out.3))
            (stays s k id v l s.words at free free);
      }

  -- a join: one view takes in another
  pub joins : (id : ℕ) (v : V) (other : ℕ) (w : V) (q : R) → v.root ≡ Some q → v.stage ≡ Idle → w.stage ≡ Idle → Joins K id v other w (taken_in v w) spent
  joins id v other w q is idle idle' s k at apart at' =
      let b : V = taken_in v w in
      let gone : V = spent in
      let its_at : get_elem? s.views other ≡ some w = sym (set_else s.views id other b apart) ∙ at' in
      let own = k.each id v at in
      let rooted = named k.log k.drawer (get_or s.words 0 0) id v q own is in
      let its = k.each other w its_at in
      let free : has_value v.stage ≡ false = ap has_value idle in
      let free' : has_value w.stage ≡ false = ap has_value idle' in
      let no_ticket : tickets v.stage ≡ 0 = ap tickets idle in
      let no_leave : leaves v.stage ≡ 0 = ap leaves idle in
      let no_ticket' : tickets w.stage ≡ 0 = ap tickets idle' in
      let no_leave' : leaves w.stage ≡ 0 = ap leaves idle' in
      let sums : (f : V → ℕ) → total f (set (set s.views id b) other gone) + f w + f v ≡ total f s.views + f b + f gone =
      λ f. let x = total-set f (set s.views id b) other w gone at' in let y = total-set f s.views id v b at in omega arith in
      let size : length (v.claims ++ w.claims) ≡ length v.claims + length w.claims = length-append v.claims w.claims in record {
        log = k.log;
        drawer = k.drawer;
        words = k.words;
        slots = k.slots;
        few = k.few;
        served = k.served;
        next = let x = sums (λ u. tickets u.stage) in let y = k.next in omega arith;
        low = λ high. let x = sums (λ u. leaves u.stage) in let y = k.low high in omega arith;
        spread = let x = sums (λ u. length u.claims) in let y = k.spread in omega arith;
        once = λ i. let x = sums (λ u. times i u.claims) in let had = k.once i in let p = total-append (λ c. bit (eqb c.number i)) v.claims w.claims in
            ((λ h. let y = had.0 h in omega arith), (λ h. let y = had.1 h in omega arith));
        told = k.told;
        lines = k.lines;
        each = λ j u at''. ⊎_elim
            (λ here. subst (λ (z : V). Kn k.log k.drawer (get_or s.words 0 0) j z) here.1 record {
              rooted = inr refl;
              seen = (k.log, refl);
              met = tt;
              ticket = λ t is. cc;
              turn = λ is. cc;
              refused = λ is. cc;
              drawn = omega arith;
              claims = tt;
              able = omega arith;
            })
            (λ there. ⊎_elim
            (λ here. subst (λ (z : ℕ × V). Kn k.log k.drawer (get_or s.words 0 0) z.0 z.1) (λ i. (sym here.0 i, here.1 i)) record {
              rooted = inl rooted;
              seen = own.seen;
              met = each_append (StartsWith k.log) v.met (w.seen ∷ []) own.met (its.seen, tt);
              ticket = own.ticket;
              turn = own.turn;
              refused = either v.refused w.refused (2 ^ 63 ≤ get_or s.words 0 0) own.refused its.refused;
              drawn = let x = own.drawn in let y = its.drawn in omega arith;
              claims = each_append (Right k.log) v.claims w.claims own.claims its.claims;
              able = omega arith;
            })
            (λ else. k.each j u else.1)
            (at_set s.views id j b u there.1))
            (at_set (set s.views id b) other j gone u at'');
        value = ⊎_elim
            (λ home. inl (
              home.0,
              home.1,
              home.2,
              home.3,
              λ j u at''. ⊎_elim
                  (λ here. sym (ap (λ (z : V). has_value z.stage) here.1))
                  (λ there. home.4 j u there.1)
                  (at_set (set s.views id b) other j gone u at''),
            ))
            (λ out.
            let far : out.0 ≢ other = λ same.
            let is : some out.1 ≡ some w = sym out.2 ∙ (ap (get_elem? (set s.views id b)) same ∙ at') in
            let clash : true ≡ false = sym out.3 ∙ (ap (λ (z : V). has_value z.stage) (some-injective out.1 w is) ∙ free') in cc in
            inr (out.0, out.1, set_else (set s.views id b) other out.0 gone far ∙ out.2, out.3))
            (stays s k id v b s.words at free free);
      }

  -- where one idle view has every number, the value is at home, and that view knows the whole history
  pub closes : (s : St) (k : K s) (id : ℕ) (v : V) → get_elem? s.views id ≡ some v → v.stage ≡ Idle → length v.claims ≡ passes
      → (x : T) × (get_elem? s.homes 0 ≡ some (some (Some x))) × (root x ≡ r) × Sound line (story x) v × Each (λ e. times (line e) v.claims ≡ 1) (story x)
  closes s k id v at idle all =
      let own = k.each id v at in
      let spread = k.spread in
      let next = k.next in
      let bare : (j : ℕ) (u : V) → get_elem? s.views j ≡ some u → j ≢ id → length u.claims ≡ 0 =
      λ j u at' apart. let both = two_within (λ (z : V). length z.claims) s.views id j v u at at' apart in omega arith in
      let no_tickets : total (λ u. tickets u.stage) s.views ≡ 0 =
      total-alone (λ (u : V). tickets u.stage) s.views id v at (λ j u at' apart. let a = bare j u at' apart in let b = (k.each j u at').able in omega arith)
      ∙ ap tickets idle in
      let count : (i : ℕ) → i < passes → times i v.claims ≡ 1 =
      λ i h. sym (total-alone (λ (u : V). times i u.claims) s.views id v at (λ j u at' apart. times_of_none i u.claims (bare j u at' apart)))
      ∙ (k.once i).0 h in
      ⊎_elim
      (λ home.
      let sound : Sound line k.log v = record {
        seen = own.seen;
        met = own.met;
        claims = own.claims;
        refused = λ yes. let a = own.refused yes in omega arith;
        drawn = let a = own.drawn in omega arith;
      } in
      let lines : Each (λ e. times (line e) v.claims ≡ 1) k.log =
      each_map (λ e. line e < passes) (λ e. times (line e) v.claims ≡ 1) (λ e h. count (line e) h) k.log k.lines in
      let told = subst (λ (l : List E). Sound line l v × Each (λ e. times (line e) v.claims ≡ 1) l) (sym home.2) (sound, lines) in
      (home.0, home.1, home.3, told.0, told.1))
      (λ out.
      let its_turn = (k.each out.0 out.1 out.2).turn out.3 in
      let one_ticket : tickets out.1.stage ≡ 1 = ticket-counts out.1.stage (length k.log) its_turn.0 in
      let few = one_within (λ (u : V). tickets u.stage) s.views out.0 out.1 out.2 in absurd (omega arith))
      k.value where
        ticket-counts : (stage : Stage) (t : ℕ) → ticket_of stage ≡ Some t → tickets stage ≡ 1
        ticket-counts Idle t is = cc
        ticket-counts MayDraw t is = cc
        ticket-counts (Waits z) t is = refl
        ticket-counts (Works z) t is = refl

module _ {T E R : Type 0} (story : T → List E) (line : E → ℕ) (root : T → R) where
  -- the table at the start
  pub starts : (x : T) (passes : ℕ) → story x ≡ [] → passes < 2 ^ 32
      → Kept story line root (root x) passes (opening (0 ∷ 0 ∷ []) (Some x ∷ []) (resting (Some (root x)) false 0 (fresh 0 passes) []))
  starts x passes empty few =
      let v : View E R = resting (Some (root x)) false 0 (fresh 0 passes) [] in
      let only : (j : ℕ) (u : View E R) → get_elem? (v ∷ []) j ≡ some u → v ≡ u = only_one v in
      let size = length-fresh 0 passes in record {
        log = [];
        drawer = λ t. 0;
        words = refl;
        slots = refl;
        few = few;
        served = refl;
        next = refl;
        low = λ h. absurd (omega arith);
        spread = omega arith;
        once = λ i. (
          (λ h. let a = fresh_with i 0 passes (omega arith) (omega arith) in omega arith),
          (λ h. let a = fresh_without i 0 passes (inr (omega arith)) in omega arith),
        );
        told = λ l h. (x, empty ∙ starts_nothing l h, refl);
        lines = tt;
        each = λ j u at. subst (λ (z : View E R). Knows story line root (root x) [] (λ t. 0) 0 j z) (only j u at) record {
          rooted = inl refl;
          seen = ([], refl);
          met = tt;
          ticket = λ t is. cc;
          turn = λ is. cc;
          refused = λ is. cc;
          drawn = omega arith;
          claims = fresh_are_right line 0 passes;
          able = omega arith;
        };
        value = inl (x, refl, empty, refl, λ j u at. sym (ap (λ (z : View E R). has_value z.stage) (only j u at)));
      }
