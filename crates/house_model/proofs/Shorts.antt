-- The connections on which a stanza arrived for which memory was wanting.
use Rattle.std.proofs.Common.{◌≡◌, inl, inr, ℕ, ◌+◌, List, [], ◌∷◌, ◌++◌, Option, Some, None, Bool, true, false, eqb}
use Rattle.std.proofs.Common.{refl, sym, ap, ◌∙◌, subst, append_assoc, append-nil, true≢false}
use Rattle.std.specs.Prelude.{⊤}
use Rattle.stanza_tree.specs.declared.frame.Entry.{Entry}
use Rattle.stanza_model.specs.declared.stanza.Stanza.{Stanza}
use Rattle.session_table.specs.declared.line.Line as stage
use Rattle.session_table.specs.declared.line.Line.TheVariants.{Empty, Fresh, Logged, Bound, Over}
use Rattle.sm_account.specs.Sessions as one
use Rattle.sm_account.specs.Sessions.{Core, core_step, core_run}
use Rattle.sm_account.specs.Connections as alone
use Rattle.sm_account.specs.Accounts.{IsOneOf}
use Rattle.sm_account.specs.Logs.{log_of}
use Rattle.sm_account.proofs.Logs.{log_append, IsNumbered, numbered_step, counts_stay}
use Rattle.house_model.specs.declared.event.Event.TheVariants as event
use Rattle.house_model.specs.Sessions.{Op, Push, Pull, Request, Enable, Ack, Tell, Act, Drop, Resume, End, Part, Marks}
use Rattle.house_model.specs.Traffic.{Traffic, whole}
use Rattle.house_model.specs.States.{World, State, keep}
use Rattle.house_model.specs.Effects.{Effect, Open, At, Begin, On, Note, Hosts, Files, apply}
use Rattle.house_model.specs.Steps.{verdict, turn}
use Rattle.house_model.specs.Histories.{Turn, Made, Short, Legal, IsOpening}
use Rattle.house_model.specs.Sound.{Sound}
use Rattle.house_model.specs.Bridge.{core_of, op_ops, effect_ops, effects_ops, short_at, ops_of, alone_of}
use Rattle.house_model.specs.Lines.{while_counted, holding, short_on, shorts}
use Rattle.house_model.proofs.Ears.{quiet_if}
use Rattle.house_model.proofs.Told.{TurnIs, held_if}
use Rattle.house_model.proofs.LineLaws.{log_is}

abbrev one_shorts_if : Bool → one.Hold → one.Op Stanza → List ℕ
one_shorts_if true (one.Held c) (one.Short x) = c ∷ []
one_shorts_if b m op = []

abbrev one_shorts : Core Stanza → one.Op Stanza → List ℕ
one_shorts s op = one_shorts_if s.counts s.hold op

held_short : (b : Bool) (m : one.Hold) (c : ℕ) (x : Stanza) → m ≡ one.Held c
    → while_counted b (c ∷ []) ≡ one_shorts_if b m (one.Short x)
held_short false m c x is = refl
held_short true m c x is = rw is refl

short_here : (k w : ℕ) (x : Stanza) (st : State) (g : stage.Line) → Sound st.world → (st.world.lines w).stage ≡ g
    → holding k st (λ c. c ∷ []) (st.world.lines w).stage
    ≡ log_of one_shorts (core_of (st.world.sessions k)) (short_at k x g)
short_here k w x st Empty o is = ap (holding k st _) is
short_here k w x st (Over c cause) o is = ap (holding k st _) is
short_here k w x st (Fresh c) o is = ap (holding k st _) is
short_here k w x st (Logged c u) o is = ap (holding k st _) is
short_here k w x st (Bound c s) o is =
    ap (holding k st (λ c. c ∷ [])) is
    ∙ held_if (eqb k s) one_shorts k w c s st (one.Short x) (c ∷ []) refl o is
    (λ held. held_short (st.world.sessions k).counts _ c x held)

-- nothing is short before a session counts, and then the short ones are among these
record Known (x : alone.Session Stanza) (ns : List ℕ) : Type 0 where
  bare : x.core.counts ≡ false → x.trace.present.short ≡ false
  among : x.trace.present.short ≡ true → IsOneOf x.trace.present.number ns

more_of : (n : ℕ) (xs ys : List ℕ) → IsOneOf n xs → IsOneOf n (xs ++ ys)
more_of n [] ys is = absurd is
more_of n (x ∷ xs) ys (inl e) = inl e
more_of n (x ∷ xs) ys (inr is) = inr (more_of n xs ys is)

last_of : (n : ℕ) (xs : List ℕ) → IsOneOf n (xs ++ n ∷ [])
last_of n [] = inl refl
last_of n (x ∷ xs) = inr (last_of n xs)

-- short and number of the present connection
abbrev Keeps : alone.Trace Stanza → alone.Trace Stanza → Type 0
Keeps t u = (u.present.short ≡ t.present.short) × (u.present.number ≡ t.present.number)

carries_keeps : (t : alone.Trace Stanza) (e : Option Entry) → Keeps t (alone.carries t e)
carries_keeps t None = (refl, refl)
carries_keeps t (Some e) = (refl, refl)

abbrev Among : alone.Trace Stanza → List ℕ → Type 0
Among t ns = t.present.short ≡ true → IsOneOf t.present.number ns

kept_among : (t u : alone.Trace Stanza) (ns : List ℕ) → Keeps t u → Among t ns → Among u (ns ++ [])
kept_among t u ns same old is =
    more_of u.present.number ns [] (subst (λ (n : ℕ). IsOneOf n ns) (sym same.1) (old (sym same.0 ∙ is)))

opens_among : (t : alone.Trace Stanza) (c : ℕ) (n : Option ℕ) (ns : List ℕ) → Among t ns
    → Among (alone.opens t c n) (ns ++ [])
opens_among t c None ns old is = kept_among t t ns (refl, refl) old is
opens_among t c (Some n) ns old is = absurd (true≢false (sym is))

among_step : (b : Bool) (m : one.Hold) (op : one.Op Stanza) (x : alone.Session Stanza) (ns : List ℕ)
    → x.core.hold ≡ m → IsNumbered x → (b ≡ false → x.trace.present.short ≡ false) → Among x.trace ns
    → Among (alone.trace_if b m x.core x.trace op) (ns ++ one_shorts_if b m op)
among_step false one.Away (one.Begin c) x ns hold num bare old is = absurd (true≢false (sym is ∙ bare refl))
among_step true (one.Held d) one.Pull x ns hold num bare old is =
    kept_among x.trace (alone.carries x.trace (one.next_entry x.core)) ns (carries_keeps x.trace (one.next_entry x.core)) old is
among_step true (one.Held d) (one.Short y) x ns hold num bare old is =
    subst (λ (n : ℕ). IsOneOf x.trace.present.number (ns ++ n ∷ [])) (num d hold) (last_of x.trace.present.number ns)
among_step true (one.Held d) (one.Resume c h) x ns hold num bare old is =
    opens_among x.trace c (one.named x.core h) ns old is
among_step true one.Away (one.Resume c h) x ns hold num bare old is =
    opens_among x.trace c (one.named x.core h) ns old is
among_step true (one.Held d) op x ns hold num bare old is =
    kept_among x.trace (alone.trace_if true (one.Held d) x.core x.trace op) ns (refl, refl) old is
among_step true one.Away op x ns hold num bare old is = kept_among x.trace x.trace ns (refl, refl) old is
among_step true one.Ended op x ns hold num bare old is = kept_among x.trace x.trace ns (refl, refl) old is
among_step false (one.Held d) op x ns hold num bare old is = kept_among x.trace x.trace ns (refl, refl) old is
among_step false one.Away op x ns hold num bare old is = kept_among x.trace x.trace ns (refl, refl) old is
among_step false one.Ended op x ns hold num bare old is = kept_among x.trace x.trace ns (refl, refl) old is

bare_step : (b : Bool) (m : one.Hold) (op : one.Op Stanza) (x : alone.Session Stanza) → x.core.counts ≡ b
    → (x.core.counts ≡ false → x.trace.present.short ≡ false) → (one.core_if b m x.core op).counts ≡ false
    → (alone.trace_if b m x.core x.trace op).present.short ≡ false
bare_step true m op x is bare after = absurd (true≢false (sym (counts_stay m op x.core is) ∙ after))
bare_step false one.Away (one.Begin c) x is bare after = bare is
bare_step false one.Away op x is bare after = bare is
bare_step false (one.Held d) op x is bare after = bare is
bare_step false one.Ended op x is bare after = bare is

run_known : (x : alone.Session Stanza) (ops : List (one.Op Stanza)) (ns : List ℕ) → IsNumbered x → Known x ns
    → Known (alone.run x ops) (ns ++ log_of one_shorts x.core ops)
run_known x [] ns num k = record { bare = k.bare; among = λ is. more_of _ ns [] (k.among is) }
run_known x (op ∷ ops) ns num k =
    subst (Known (alone.run (alone.step x op) ops))
    (append_assoc ns (one_shorts x.core op) (log_of one_shorts (core_step x.core op) ops))
    (run_known (alone.step x op) ops (ns ++ one_shorts x.core op) (numbered_step op x num) (record {
      bare = bare_step x.core.counts x.core.hold op x refl k.bare;
      among = among_step x.core.counts x.core.hold op x ns refl num (λ is. k.bare is) k.among;
    }))

pub numbered_run : (x : alone.Session Stanza) (ops : List (one.Op Stanza)) → IsNumbered x → IsNumbered (alone.run x ops)
numbered_run x [] num = num
numbered_run x (op ∷ ops) num = numbered_run (alone.step x op) ops (numbered_step op x num)

pub start_numbered : IsNumbered {S = Stanza} alone.start
start_numbered d is = absurd (cc)

-- no operation but Short tells of one
abbrev IsNoShort : one.Op Stanza → Type 0
IsNoShort (one.Short x) = ⊥
IsNoShort op = ⊤

no_shorts : (b : Bool) (m : one.Hold) (op : one.Op Stanza) → IsNoShort op → one_shorts_if b m op ≡ []
no_shorts b m (one.Short x) is = absurd is
no_shorts true (one.Held v) op is = refl
no_shorts true one.Away op is = refl
no_shorts true one.Ended op is = refl
no_shorts false m op is = refl

one_no_short : (s : Core Stanza) (op : one.Op Stanza) → IsNoShort op → log_of one_shorts s (op ∷ []) ≡ []
one_no_short s op is = append-nil (one_shorts s op) ∙ no_shorts s.counts s.hold op is

op_no_short : (s : Core Stanza) (op : Op) → log_of one_shorts s (op_ops op) ≡ []
op_no_short s (Push e) = one_no_short s (one.Push e) tt
op_no_short s Pull = one_no_short s one.Pull tt
op_no_short s Request = one_no_short s one.Request tt
op_no_short s (Enable id) = one_no_short s one.Enable tt
op_no_short s (Ack h) = one_no_short s (one.Ack h) tt
op_no_short s Tell = one_no_short s one.Ask tt
op_no_short s (Act x) = one_no_short s (one.Act x) tt
op_no_short s (Drop t) = one_no_short s one.Drop tt
op_no_short s (Resume w c h) = one_no_short s (one.Resume c h) tt
op_no_short s (End cause) = one_no_short s one.End tt
op_no_short s Part = refl
op_no_short s (Marks mark) = refl

effect_no_short : (k : ℕ) (world : World Traffic) (e : Effect) (s : Core Stanza)
    → log_of one_shorts s (effect_ops k world e) ≡ []
effect_no_short k world (Open w) s = refl
effect_no_short k world (At w op) s = refl
effect_no_short k world (Note change) s = refl
effect_no_short k world (Hosts x) s = refl
effect_no_short k world (Files filing) s = refl
effect_no_short k world (Begin w c a) s =
    quiet_if one_shorts (eqb k (world.made + 1)) (one.Begin c ∷ []) s (one_no_short s (one.Begin c) tt)
effect_no_short k world (On j op) s = quiet_if one_shorts (eqb k j) (op_ops op) s (op_no_short s op)

effects_no_short : (k : ℕ) (world : World Traffic) (es : List Effect) (s : Core Stanza)
    → log_of one_shorts s (effects_ops k world es) ≡ []
effects_no_short k world [] s = refl
effects_no_short k world (e ∷ es) s =
    log_append one_shorts s (effect_ops k world e) (effects_ops k (apply whole world e) es)
    ∙ (ap (λ (l : List ℕ). l ++ log_of one_shorts (core_run s (effect_ops k world e)) (effects_ops k (apply whole world e) es))
    (effect_no_short k world e s)
    ∙ effects_no_short k (apply whole world e) es (core_run s (effect_ops k world e)))

shorts_turn : (k : ℕ) → TurnIs one_shorts (short_on k) k
shorts_turn k st (event.Act w x t) Short o is = short_here k w x st (st.world.lines w).stage o refl
shorts_turn k st (event.Act w x t) (Made r text) o is =
    sym (effects_no_short k st.world (verdict (keep (turn (event.Act w x t) st)) (event.Act w x t)).effects
    (core_of (st.world.sessions k)))
shorts_turn k st e (Made r text) o is = sym (effects_no_short k st.world (verdict (keep (turn e st)) e).effects
    (core_of (st.world.sessions k)))
shorts_turn k st e Short o is = refl

-- no stanza was short on the present connection
pub not_short : (o : State) (h : List Turn) (k : ℕ) → IsOpening o → Legal o h
    → (IsOneOf (alone_of k o h).trace.present.number (shorts o h k) → ⊥)
    → (alone_of k o h).trace.present.short ≡ false
not_short o h k starts legal whole = by_test (alone_of k o h).trace.present.short refl
  where
    known : Known (alone_of k o h) (log_of one_shorts one.unmade (ops_of k o h))
    known = run_known alone.start (ops_of k o h) [] start_numbered
        (record { bare = λ is. refl; among = λ is. absurd (true≢false (sym is)) })

    by_test : (b : Bool) → (alone_of k o h).trace.present.short ≡ b → b ≡ false
    by_test true is = absurd (whole (subst (IsOneOf (alone_of k o h).trace.present.number)
        (sym (log_is one_shorts (short_on k) o h k (shorts_turn k) starts legal)) (known.among is)))
    by_test false is = refl
