-- That a client counts, read off the states that a history goes through.
use Rattle.std.proofs.Common.{◌≡◌, inl, ℕ, suc, ◌+◌, ◌-◌, ◌^◌, ◌<◌, ◌≤◌, ◌==◌, List, [], ◌∷◌, ◌++◌, length, take, drop, refl, sym, ap, ◌∙◌, subst}
use Rattle.std.proofs.Common.{true, false, Some}
use Rattle.std.specs.Prelude.{slice_get}
use Rattle.stanza_tree.specs.declared.frame.Entry.{Entry}
use Rattle.stanza_model.specs.declared.stanza.Stanza.{Stanza}
use Rattle.sm_counters.specs.Numbers.{count_of, number}
use Rattle.sm_account.specs.Accounts.{Account, IsOneOf}
use Rattle.sm_account.specs.Prefixes.{IsPrefixOf}
use Rattle.sm_account.specs.Logs.{Given, Taken, entries_of, stanzas_of}
use Rattle.sm_resume.specs.declared.id.ResumeId.{ResumeId}
use Rattle.session_table.specs.declared.line.Line.TheVariants.{Bound}
use Rattle.house_model.specs.declared.event.Event.TheVariants as event
use Rattle.house_model.specs.declared.reply.Reply.{Reply}
use Rattle.house_model.specs.declared.reply.Reply.TheVariants as reply
use Rattle.house_model.specs.Accounts.{Acks, IsWhole, LineFits, Resumes, TurnFits, TurnsFit, WhereCounted, WhereHeld, WhereMine, handled, handled_on}
use Rattle.house_model.specs.Accounts.{latest, sum}
use Rattle.house_model.specs.States.{State}
use Rattle.house_model.specs.Traffic.{inward}
use Rattle.house_model.specs.Histories.{Made, Outcome, Turn, after, next}
use Rattle.house_model.specs.Promises.{counted}
use Rattle.house_model.specs.Lines.{arrivals, carried, given, joined, lines, short_on, taken, told}
use Rattle.house_story.proofs.Runs.{Goes, Stop, end_of, after-one, told-one, turns}

-- what a history tells of a session
pub record Log : Type 0 where
  pub conns : List ℕ
  pub gave : List Given
  pub came : List (Taken Stanza)
  pub missed : List ℕ

abbrev pub nothing : Log
nothing = record { conns = []; gave = []; came = []; missed = [] }

-- what holds of a number, and what follows
pub with_said : {F G : ℕ → Type 0} (v : ℕ) → F v → G v → (n : ℕ) × F n × G n
with_said v one more = (v, one, more)

module _ (a : Account Stanza) (o : State) (s : ℕ) where
  abbrev pub longer : Log → State → Turn → Log
  longer log st x = record {
    conns = log.conns ++ joined s st x.event x.outcome;
    gave = log.gave ++ given s st x.event x.outcome;
    came = log.came ++ taken s st x.event x.outcome;
    missed = log.missed ++ short_on s st x.event x.outcome;
  }

  -- a history that leads to a state, and tells this
  pub record Leads (g : List Turn) (st : State) (log : Log) : Type 0 where
    pub state : after o g ≡ st
    pub conns : told (joined s) o g ≡ log.conns
    pub gave : told (given s) o g ≡ log.gave
    pub came : told (taken s) o g ≡ log.came
    pub missed : told (short_on s) o g ≡ log.missed

  more-told : {A : Type 0} (tell : State → Turn → List A) (st : State) (x : Turn) (xs ys : List A) (g : List Turn)
      → after o g ≡ st → xs ≡ ys → xs ++ tell (after o g) x ≡ ys ++ tell st x
  more-told tell st x xs ys g is same = ap (λ q. xs ++ tell q x) is ∙ ap (λ l. l ++ tell st x) same

  leads-on : (g : List Turn) (st : State) (log : Log) (x : Turn) (to : State) → Leads g st log → next st x ≡ to
      → Leads (g ++ x ∷ []) to (longer log st x)
  leads-on g st log x to l goes = record {
    state = after-one o g x ∙ ap (λ q. next q x) l.state ∙ goes;
    conns = told-one (joined s) o g x ∙ more-told (λ q y. joined s q y.event y.outcome) st x _ log.conns g l.state l.conns;
    gave = told-one (given s) o g x ∙ more-told (λ q y. given s q y.event y.outcome) st x _ log.gave g l.state l.gave;
    came = told-one (taken s) o g x ∙ more-told (λ q y. taken s q y.event y.outcome) st x _ log.came g l.state l.came;
    missed = told-one (short_on s) o g x ∙ more-told (λ q y. short_on s q y.event y.outcome) st x _ log.missed g l.state l.missed;
  }

  -- a turn fits, whatever history leads to its state
  abbrev pub Fits : State → Log → ℕ → Turn → ℕ → Type 0
  Fits st log said x v = (g : List Turn) → Leads g st log → TurnFits a o g s said x.event x.outcome v

  -- what the client said before these turns, and after them
  abbrev pub AllFit : State → Log → (said : ℕ) → List Stop → (then : ℕ) → Type 0
  AllFit st log said [] then = then ≡ said
  AllFit st log said (x ∷ more) then = (v : ℕ) × Fits st log said x.turn v × AllFit x.state (longer log st x.turn) v more then

  abbrev pub log_along : Log → State → List Stop → Log
  log_along log st [] = log
  log_along log st (x ∷ more) = log_along (longer log st x.turn) x.state more

  pub fit-both : (st : State) (log : Log) (said mid then : ℕ) (xs ys : List Stop) → AllFit st log said xs mid
      → AllFit (end_of st xs) (log_along log st xs) mid ys then → AllFit st log said (xs ++ ys) then
  fit-both st log said mid then [] ys first second = subst (λ n. AllFit st log n ys then) first second
  fit-both st log said mid then (x ∷ more) ys (v, fit, fits) second =
      (v, fit, fit-both x.state (longer log st x.turn) v mid then more ys fits second)

  turns-fit : (g : List Turn) (st : State) (log : Log) (said : ℕ) (then : ℕ) (xs : List Stop) → Leads g st log → Goes st xs → AllFit st log said xs then
      → TurnsFit a o g s said (turns xs)
  turns-fit g st log said then [] l goes fits = tt
  turns-fit g st log said then (x ∷ more) l goes (v, fit, fits) =
      (v, fit g l, turns-fit (g ++ x.turn ∷ []) x.state (longer log st x.turn) v then more (leads-on g st log x.turn x.state l goes.0) goes.1 fits)

  pub fits-of : (xs : List Stop) (h : List Turn) (then : ℕ) → turns xs ≡ h → Goes o xs → AllFit o nothing 0 xs then → TurnsFit a o [] s 0 h
  fits-of xs h then same goes fits =
      subst (TurnsFit a o [] s 0) same
      (turns-fit [] o nothing 0 then xs (record { state = refl; conns = refl; gave = refl; came = refl; missed = refl }) goes fits)

  -- The turns that tell of the client.

  held-mine : (g : List Turn) (st : State) (w c : ℕ) (F : ℕ → Type 0) (E : Type 0) → after o g ≡ st → (st.world.lines w).stage ≡ Bound c s
      → (s == s) ≡ true → (st.world.sessions s).counts ≡ true → F c → WhereHeld a o g s F E ((after o g).world.lines w).stage
  held-mine g st w c F E is at mine counts held =
      subst (WhereHeld a o g s F E) (sym (ap (λ q. (q.world.lines w).stage) is ∙ at))
      (subst (λ m. WhereCounted a o g s m ((after o g).world.sessions s).counts (F c) E) (sym mine)
      (subst (λ b. WhereCounted a o g s true b (F c) E) (sym (ap (λ q. (q.world.sessions s).counts) is ∙ counts)) held))

  held-other : (g : List Turn) (st : State) (w c i : ℕ) (F : ℕ → Type 0) (E : Type 0) → after o g ≡ st → (st.world.lines w).stage ≡ Bound c i
      → (s == i) ≡ false → E → WhereHeld a o g s F E ((after o g).world.lines w).stage
  held-other g st w c i F E is at other else =
      subst (WhereHeld a o g s F E) (sym (ap (λ q. (q.world.lines w).stage) is ∙ at))
      (subst (λ m. WhereCounted a o g s m ((after o g).world.sessions s).counts (F c) E) (sym other) else)

  module _ (st : State) (log : Log) (said : ℕ) where
    -- a stanza of the client's
    pub act-fits : (w c t : ℕ) (x : Stanza) (outcome : Outcome) → (st.world.lines w).stage ≡ Bound c s → (s == s) ≡ true
        → (st.world.sessions s).counts ≡ true → log.missed ≡ [] → Fits st log said (record { event = event.Act w x t; outcome = outcome }) said
    act-fits w c t x outcome at mine counts whole g l =
        held-mine g st w c (λ d. (said ≡ said) × IsWhole a o g s d) (said ≡ said) l.state at mine counts
        (refl, λ one. subst (λ ds. IsOneOf c ds) (l.missed ∙ whole) one)

    -- of another
    pub other-fits : (w c i t : ℕ) (x : Stanza) (outcome : Outcome) → (st.world.lines w).stage ≡ Bound c i → (s == i) ≡ false
        → Fits st log said (record { event = event.Act w x t; outcome = outcome }) said
    other-fits w c i t x outcome at other g l =
        held-other g st w c i (λ d. (said ≡ said) × IsWhole a o g s d) (said ≡ said) l.state at other refl

    pub record AcksThere (c count v : ℕ) : Type 0 where
      pub counts : count_of v ≡ count
      pub rising : said ≤ v
      pub before : sum a.handles (length log.conns - 1) ≤ v
      pub handled : v ≤ sum a.handles (suc (length log.conns - 1))
      pub carried : v ≤ sum a.handles (length log.conns - 1) + length (entries_of c log.gave)

    pub ack-fits : (w c count v : ℕ) (r : Reply) (text : List ℕ) → (st.world.lines w).stage ≡ Bound c s → (s == s) ≡ true
        → (st.world.sessions s).counts ≡ true → AcksThere c count v
        → Fits st log said (record { event = event.Ack w count; outcome = Made r text }) v
    ack-fits w c count v r text at mine counts f g l =
        held-mine g st w c (λ d. Acks a o g s d said count v) (v ≡ said) l.state at mine counts
        (record {
          counts = f.counts;
          rising = f.rising;
          before = subst (λ js. sum a.handles (length js - 1) ≤ v) (sym l.conns) f.before;
          handled = subst (λ js. v ≤ sum a.handles (suc (length js - 1))) (sym l.conns) f.handled;
          carried = subst (λ js. v ≤ sum a.handles (length js - 1) + length (carried o g s c)) (sym l.conns)
              (subst (λ gs. v ≤ sum a.handles (length log.conns - 1) + length (entries_of c gs)) (sym l.gave) f.carried);
        })

    abbrev place : ℕ
    place = length log.conns - 1

    pub record ResumesThere (count : ℕ) : Type 0 where
      pub counts : count_of (sum a.handles (suc place)) ≡ count
      pub lowest : a.lowest place ≡ 0
      pub sent : (j c : ℕ) → slice_get log.conns j ≡ Some c → a.begins j + length (stanzas_of c log.came) ≤ a.highest place
      pub has : a.highest place ≤ length a.stanzas
      pub near : a.highest place < a.lowest place + 2 ^ 32
      pub begins : number (a.lowest place) (a.highest place) (inward (st.world.sessions s).traffic) ≡ Some (a.begins (place + 1))

    pub resume-fits : (w count t v : ℕ) (id : ResumeId) (text : List ℕ) → (s == id.session) ≡ true → ResumesThere count → v ≡ sum a.handles (suc place)
        → Fits st log said (record { event = event.Resume w (Some id) count t; outcome = Made reply.Resumed text }) v
    resume-fits w count t v id text mine f total g l =
        subst (λ m. WhereMine a o g s m (Resumes a o g s count × (v ≡ sum a.handles (suc (latest a o g s)))) (v ≡ said)) (sym mine) (
          record {
            counts = subst (λ js. count_of (sum a.handles (suc (length js - 1))) ≡ count) (sym l.conns) f.counts;
            known = inl (subst (λ js. a.lowest (length js - 1) ≡ 0) (sym l.conns) f.lowest);
            sent = subst
                (λ js. (j c : ℕ) → slice_get js j ≡ Some c → a.begins j + length (arrivals o g s c) ≤ a.highest (length js - 1))
                (sym l.conns)
                (subst
                (λ ts. (j c : ℕ) → slice_get log.conns j ≡ Some c → a.begins j + length (stanzas_of c ts) ≤ a.highest place) (sym l.came) f.sent);
            has = subst (λ js. a.highest (length js - 1) ≤ length a.stanzas) (sym l.conns) f.has;
            near = subst (λ js. a.highest (length js - 1) < a.lowest (length js - 1) + 2 ^ 32) (sym l.conns) f.near;
            begins = subst
                (λ js. number (a.lowest (length js - 1)) (a.highest (length js - 1)) (inward ((after o g).world.sessions s).traffic)
                ≡ Some (a.begins (length js - 1 + 1)))
                (sym l.conns)
                (subst
                (λ q. number (a.lowest place) (a.highest place) (inward (q.world.sessions s).traffic) ≡ Some (a.begins (place + 1))) (sym l.state) f.begins);
          },
          subst (λ js. v ≡ sum a.handles (suc (length js - 1))) (sym l.conns) total,
        )

  -- What its lines tell.

  pub line-fits : (h : List Turn) (i c : ℕ) (xs : List Entry) (ys : List Stanza) → carried o h s c ≡ xs → arrivals o h s c ≡ ys → a.handles i ≤ length xs
      → IsPrefixOf ys (drop (a.begins i) a.stanzas) → LineFits a o h s i c
  line-fits h i c xs ys gave came within in_order = record {
    within = subst (λ es. a.handles i ≤ length es) (sym gave) within;
    in_order = subst (λ ts. IsPrefixOf ts (drop (a.begins i) a.stanzas)) (sym came) in_order;
  }

  pub both-handled : (h : List Turn) (c d : ℕ) (xs ys : List Entry) → lines o h s ≡ c ∷ d ∷ [] → carried o h s c ≡ xs → carried o h s d ≡ ys
      → handled a o h s ≡ take (a.handles 0) xs ++ (take (a.handles 1) ys ++ [])
  both-handled h c d xs ys are first second =
      ap (handled_on a o h s 0) are ∙ ap (λ es. take (a.handles 0) es ++ (take (a.handles 1) (carried o h s d) ++ [])) first
      ∙ ap (λ es. take (a.handles 0) xs ++ (take (a.handles 1) es ++ [])) second

  pub queued-at : (h : List Turn) (st : State) → after o h ≡ st
      → counted o h s ≡ drop (st.world.sessions s).traffic.base_out (st.world.sessions s).traffic.queued
  queued-at h st is = ap (λ q. drop (q.world.sessions s).traffic.base_out (q.world.sessions s).traffic.queued) is
