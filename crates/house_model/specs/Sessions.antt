-- A session and what happens to it, over the whole traffic of the definition and over what is kept of it alike.
use Rattle.std.specs.Prelude.{ℕ, ℤ, pos, List, [], Option, Some, None, Bool, true, false}
use Rattle.stanza_tree.specs.declared.frame.Entry.{Entry}
use Rattle.stanza_model.specs.declared.stanza.Stanza.{Stanza}
use Rattle.jid_core.specs.Addresses.{Address}
use Rattle.sm_resume.specs.declared.decision.Cause.{Cause}
use Rattle.sm_resume.specs.declared.decision.Cause.TheVariants.{Lost}
use Rattle.sm_resume.specs.declared.id.ResumeId.{ResumeId}

-- This connection of this line holds it; none does, and it can be resumed; it is over; it departed.
pub data Hold : Type 0 where
  Held : (line conn : ℕ) → Hold
  Away : Hold
  Ended : (cause : Cause) → Hold
  Gone : Hold

-- what its client told of itself, and was told of its roster (RFC 6121, 2.1.6, 4.2 and 4.6)
pub record Manner : Type 0 where
  pub presence : Option (List ℕ)  -- its presence, while it is available
  pub priority : ℤ
  pub directed : List Address  -- to whom it sent presence alone
  pub wants_roster : Bool  -- it asked for its roster
  pub pushes : ℕ  -- how many changes of it were queued

abbrev pub silent : Manner
silent = record { presence = None; priority = pos 0; directed = []; wants_roster = false; pushes = 0 }

-- what counting does not speak of
pub record Rest : Type 0 where
  pub address : Address
  pub resume_id : Option ResumeId  -- the id by which it is resumed, where the client asked for one
  pub deadline : Option ℕ  -- the moment from which it is swept, where no connection holds it
  pub manner : Manner

-- A session: whether its stanzas are counted (XEP-0198, 3), who holds it, its traffic, and the rest.
pub record Session (T : Type 0) : Type 0 where
  pub counts : Bool
  pub hold : Hold
  pub traffic : T
  pub rest : Rest

-- what can happen to a session's traffic
pub record Ways (T : Type 0) : Type 0 where
  pub none : T
  pub has_room : T → Entry → Bool
  pub queue : T → Entry → T
  pub give : T → T  -- the next entry was given
  pub give_up : T → T  -- the same, of a session that does not count
  pub ask : T → T  -- an acknowledgement was asked for
  pub enable : T → T
  pub ack : T → ℕ → Option T  -- none where the count is too high
  pub resume : T → ℕ → Option T
  pub act : T → Stanza → T
  pub overfull : T → Cause
  pub too_high : T → ℕ → Cause
  pub part : Bool → T → Rest → Session T

abbrev pub session : {T : Type 0} → Bool → Hold → T → Rest → Session T
session counts hold traffic rest = record { counts = counts; hold = hold; traffic = traffic; rest = rest }

abbrev pub nobody : Address
nobody = record { local = None; domain = []; resource = None }

abbrev pub nowhere : Rest
nowhere = record { address = nobody; resume_id = None; deadline = None; manner = silent }

-- A session that is not made yet is a value too. What is kept of one that departed is the same.
abbrev pub gone : {T : Type 0} → T → Session T
gone none = session false Away none nowhere

abbrev pub unmade : {T : Type 0} → Ways T → Session T
unmade z = gone z.none

-- a session that a binding made (RFC 6120, 7)
abbrev pub begun : {T : Type 0} → Ways T → (line conn : ℕ) → Address → Session T
begun z w c address = session false (Held w c) z.none (record nowhere { address = address })

-- what changes in its manner
pub data Mark : Type 0 where
  Shown : (stanza : List ℕ) → (priority : ℤ) → Mark
  Hidden : Mark
  Directs : (addresses : List Address) → Mark
  WantsRoster : Mark
  Pushed : (pushes : ℕ) → Mark

abbrev pub marked : Mark → Manner → Manner
marked (Shown stanza priority) m = record m { presence = Some stanza; priority = priority }
marked Hidden m = record m { presence = None; priority = pos 0 }
marked (Directs addresses) m = record m { directed = addresses }
marked WantsRoster m = record m { wants_roster = true }
marked (Pushed pushes) m = record m { pushes = pushes }

abbrev pub with_mark : Mark → Rest → Rest
with_mark mark r = record r { manner = marked mark r.manner }

pub data Op : Type 0 where
  Push : (entry : Entry) → Op  -- an entry is queued
  Pull : Op  -- the next entry is given
  Request : Op  -- an acknowledgement is asked for
  Enable : (id : Option ResumeId) → Op
  Ack : (count : ℕ) → Op
  Tell : Op  -- its client is told the inward count, which changes nothing
  Act : (stanza : Stanza) → Op
  Drop : (deadline : ℕ) → Op
  Resume : (line conn count : ℕ) → Op
  End : (cause : Cause) → Op
  Marks : (mark : Mark) → Op  -- its client told something, or was told
  Part : Op

abbrev pub over : {T : Type 0} → Bool → T → Rest → Cause → Session T
over b t r cause = session b (Ended cause) t (record r { deadline = None })

-- an entry that passes a limit of the queue ends the session, and is not queued
abbrev pub pushed : {T : Type 0} → Ways T → Bool → Bool → Hold → T → Rest → Entry → Session T
pushed z true b m t r e = session b m (z.queue t e) r
pushed z false b m t r e = over b t r (z.overfull t)

abbrev pub acked : {T : Type 0} → Ways T → Option T → Hold → T → Rest → ℕ → Session T
acked z (Some u) m t r h = session true m u r
acked z None m t r h = over true t r (z.too_high t h)

abbrev pub resumed : {T : Type 0} → Option T → Hold → T → Rest → (line conn : ℕ) → Session T
resumed (Some u) m t r w c = session true (Held w c) u (record r { deadline = None })
resumed None m t r w c = session true m t r

-- One operation, by whether the session counts and who holds it; any other changes nothing
abbrev pub step_if : {T : Type 0} → Ways T → Bool → Hold → T → Rest → Op → Session T
step_if z b (Held v d) t r (Push e) = pushed z (z.has_room t e) b (Held v d) t r e
step_if z true Away t r (Push e) = pushed z (z.has_room t e) true Away t r e
step_if z b (Held v d) t r (End cause) = over b t r cause
step_if z true Away t r (End cause) = over true t r cause
step_if z false (Held v d) t r Pull = session false (Held v d) (z.give_up t) r
step_if z true (Held v d) t r Pull = session true (Held v d) (z.give t) r
step_if z true (Held v d) t r Request = session true (Held v d) (z.ask t) r
step_if z false (Held v d) t r (Enable id) = session true (Held v d) (z.enable t) (record r { resume_id = id })
step_if z true (Held v d) t r (Ack h) = acked z (z.ack t h) (Held v d) t r h
step_if z b (Held v d) t r (Act x) = session b (Held v d) (z.act t x) r
step_if z false (Held v d) t r (Drop deadline) = over false t r Lost
step_if z true (Held v d) t r (Drop deadline) = session true Away t (record r { deadline = Some deadline })
step_if z true (Held v d) t r (Resume w c h) = resumed (z.resume t h) (Held v d) t r w c
step_if z true Away t r (Resume w c h) = resumed (z.resume t h) Away t r w c
step_if z b (Ended cause) t r Part = z.part b t r
step_if z b (Held v d) t r (Marks mark) = session b (Held v d) t (with_mark mark r)
step_if z true Away t r (Marks mark) = session true Away t (with_mark mark r)
step_if z b (Ended cause) t r (Marks mark) = session b (Ended cause) t (with_mark mark r)
step_if z b m t r op = session b m t r

abbrev pub session_step : {T : Type 0} → Ways T → Session T → Op → Session T
session_step z s op = step_if z s.counts s.hold s.traffic s.rest op
