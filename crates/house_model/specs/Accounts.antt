-- A client that counts as XEP-0198 has it, told beside the house's history: what it has to send, and what it handled.
use Rattle.std.specs.Prelude.{◌≡◌, ◌⊎◌, ℕ, zero, suc, ◌+◌, ◌-◌, ◌^◌, ◌<◌, ◌≤◌, ◌==◌, List, [], ◌∷◌, ◌++◌}
use Rattle.std.specs.Prelude.{length, take, drop, slice_get, Some, Bool, true, false, ⊤}
use Rattle.stanza_tree.specs.declared.frame.Entry.{Entry}
use Rattle.stanza_model.specs.declared.stanza.Stanza.{Stanza}
use Rattle.sm_counters.specs.Numbers.{count_of, number}
use Rattle.sm_account.specs.Prefixes.{IsPrefixOf}
use Rattle.sm_account.specs.Accounts.{Account, IsOneOf}
use Rattle.session_table.specs.declared.line.Line as stage
use Rattle.session_table.specs.declared.line.Line.TheVariants.{Bound}
use Rattle.house_model.specs.declared.event.Event.{Event}
use Rattle.house_model.specs.declared.event.Event.TheVariants as event
use Rattle.house_model.specs.declared.reply.Reply.TheVariants as reply
use Rattle.house_model.specs.Traffic.{inward}
use Rattle.house_model.specs.States.{State}
use Rattle.house_model.specs.Histories.{Outcome, Made, Turn, after}
use Rattle.house_model.specs.Lines.{lines, carried, arrivals, asks, shorts}

-- how many entries it handled on the first n connections of its session
abbrev pub sum : (ℕ → ℕ) → ℕ → ℕ
sum handles zero = 0
sum handles (suc n) = sum handles n + handles n

module _ (a : Account Stanza) (o : State) (h : List Turn) (s : ℕ) where
  -- the place of the latest connection, where the first one has 0
  abbrev pub latest : ℕ
  latest = length (lines o h s) - 1

  abbrev pub total_handled : ℕ
  total_handled = sum a.handles (suc latest)

  -- what it handled: the first entries that each connection carried
  abbrev pub handled_on : ℕ → List ℕ → List Entry
  handled_on i [] = []
  handled_on i (c ∷ cs) = take (a.handles i) (carried o h s c) ++ handled_on (i + 1) cs

  abbrev pub handled : List Entry
  handled = handled_on 0 (lines o h s)

  -- On each connection the client handles what it carries, from the front; and what arrives are the client's stanzas, in
  -- order, from the one on with which it begins there.
  pub record LineFits (i c : ℕ) : Type 0 where
    pub within : a.handles i ≤ length (carried o h s c)
    pub in_order : IsPrefixOf (arrivals o h s c) (drop (a.begins i) a.stanzas)

  -- XEP-0198, 4: an `a` says with its count that the client handled v entries so far. They were given to it, it handles
  -- no fewer on this connection c and those before, and it said no more before.
  pub record Acks (c said count v : ℕ) : Type 0 where
    pub counts : count_of v ≡ count
    pub rising : said ≤ v
    pub before : sum a.handles latest ≤ v
    pub handled : v ≤ total_handled
    pub carried : v ≤ sum a.handles latest + length (carried o h s c)

  -- The client knows that at least n stanzas were acted on: n is 0, or it began to send after n on some connection, or an
  -- Ask was told n.
  abbrev pub IsKnown : ℕ → Type 0
  IsKnown n = (n ≡ 0) ⊎ (((j : ℕ) × (j ≤ latest) × (n ≡ a.begins j)) ⊎ IsOneOf n (asks o h s))

  -- XEP-0198, 5: a resumption says with its count how many entries the client handled. The answer has the server's count,
  -- and the client sends again from the one number of that count between the lowest and the highest that can be.
  pub record Resumes (count : ℕ) : Type 0 where
    pub counts : count_of total_handled ≡ count
    pub known : IsKnown (a.lowest latest)
    pub sent : (j c : ℕ) → slice_get (lines o h s) j ≡ Some c
        → a.begins j + length (arrivals o h s c) ≤ a.highest latest
    pub has : a.highest latest ≤ length a.stanzas
    pub near : a.highest latest < a.lowest latest + 2 ^ 32
    pub begins : number (a.lowest latest) (a.highest latest) (inward ((after o h).world.sessions s).traffic)
        ≡ Some (a.begins (latest + 1))

  -- no stanza arrived on this connection for which memory was wanting
  abbrev pub IsWhole : ℕ → Type 0
  IsWhole c = IsOneOf c (shorts o h s) → ⊥

  abbrev pub WhereCounted : (mine counts : Bool) → (held else : Type 0) → Type 0
  WhereCounted true true held else = held
  WhereCounted mine counts held else = else

  -- what holds where session s is bound on a line and its stanzas are counted
  abbrev pub WhereHeld : (ℕ → Type 0) → Type 0 → stage.Line → Type 0
  WhereHeld held else (Bound c i) = WhereCounted (s == i) ((after o h).world.sessions s).counts (held c) else
  WhereHeld held else g = else

  abbrev pub WhereMine : Bool → (mine else : Type 0) → Type 0
  WhereMine true mine else = mine
  WhereMine false mine else = else

  -- What holds of one turn after this history. Before it the client last said that it handled `said` entries, after it v.
  abbrev pub TurnFits : (said : ℕ) → Event → Outcome → (v : ℕ) → Type 0
  TurnFits said (event.Ack w count) (Made r text) v =
      WhereHeld (λ c. Acks c said count v) (v ≡ said) ((after o h).world.lines w).stage
  TurnFits said (event.Act w x t) outcome v =
      WhereHeld (λ c. (v ≡ said) × IsWhole c) (v ≡ said) ((after o h).world.lines w).stage
  TurnFits said (event.Resume w (Some id) count t) (Made reply.Resumed text) v =
      WhereMine (s == id.session) (Resumes count × (v ≡ total_handled)) (v ≡ said)
  TurnFits said e outcome v = v ≡ said

-- the turns after the history g
abbrev pub TurnsFit : Account Stanza → State → (g : List Turn) → (s said : ℕ) → List Turn → Type 0
TurnsFit a o g s said [] = ⊤
TurnsFit a o g s said (x ∷ more) =
    (v : ℕ) × TurnFits a o g s said x.event x.outcome v × TurnsFit a o (g ++ x ∷ []) s v more

-- what a client that counts tells of its session s after this history
pub record IsAccountOf (a : Account Stanza) (o : State) (h : List Turn) (s : ℕ) : Type 0 where
  pub first : a.begins 0 ≡ 0
  pub lines : (i c : ℕ) → slice_get (lines o h s) i ≡ Some c → LineFits a o h s i c
  pub turns : TurnsFit a o [] s 0 h
