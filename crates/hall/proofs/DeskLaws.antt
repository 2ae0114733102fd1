-- From what a call of the hall answers to what a desk's does.
use Rattle.std.proofs.Common.{◌≡◌, ℕ, List, [], ◌∷◌, ◌++◌, Result, Ok, Err, refl, sym, ◌∙◌, ap, append_assoc}
use Rattle.std.proofs.lemmas.List.{append-nil}
use Rattle.turn_lock.specs.Histories.{StartsWith}
use Rattle.turn_lock.specs.Calls.{entries_of}
use Rattle.turn_lock.specs.Passes.{number_of, seen, refused}
use Rattle.turn_lock.specs.declared.tokens.Spent.{Spent}
use Rattle.house_model.specs.declared.event.Event.{Event}
use Rattle.house_model.specs.declared.reply.Reply.{Reply}
use Rattle.house_model.specs.Histories.{Turn, MayBeShort}
use Rattle.hall.specs.declared.hall.HallFault.{HallFault}
use Rattle.hall.specs.declared.hall.HallFault.TheVariants as hall
use Rattle.hall.specs.Stories.{HallPass, line}
use Rattle.hall.specs.Halls.{Took, WasRefused, Answered, AnsweredOrShort, AnsweredBy}
use Rattle.hall.specs.Desks.{Gained, Served, marked_by, unless_spent, unless_refused}

gained : (x : Turn) (old new : HallPass) → number_of new ≡ number_of old → Took x old new → Gained (number_of old) x (seen old) (seen new)
gained x old new same t = (t.before, t.sight, t.history, (λ i. entries_of line (sym same i) (seen new)) ∙ t.own)

longer : (x : Turn) (old new before : List Turn) → StartsWith before old → new ≡ before ++ x ∷ [] → StartsWith new old
longer x old new before (more, begins) ends =
    (more ++ x ∷ [], ends ∙ (ap (λ (l : List Turn). l ++ x ∷ []) begins ∙ append_assoc old more (x ∷ [])))

took-begins : (x : Turn) (old new : HallPass) → Took x old new → StartsWith (seen new) (seen old)
took-begins x old new t = longer x (seen old) (seen new) t.before t.sight t.history

refused-begins : (old new : HallPass) → WasRefused old new → StartsWith (seen new) (seen old)
refused-begins old new t = ([], t.history ∙ sym (append-nil (seen old)))

pub served_by : (text : List ℕ) (e : Event) (r : Result Reply Spent) (old new : HallPass) → number_of new ≡ number_of old
    → AnsweredBy text e r old new → Served (number_of old) e text (unless_spent r) (seen old) (seen new)
served_by text e (Ok reply) old new same took = gained _ old new same took
served_by text e (Err fault) old new same (none, refused) = (none, refused.history)

pub served : (e : Event) (r : Result Reply Spent) (old new : HallPass) → number_of new ≡ number_of old
    → Answered e r old new → Served (number_of old) e [] (unless_spent r) (seen old) (seen new)
served e (Ok reply) old new same took = gained _ old new same took
served e (Err fault) old new same refused = (refl, refused.history)

pub served_or_short : (e : Event) (r : Result Reply HallFault) (old new : HallPass) → MayBeShort e → number_of new ≡ number_of old
    → AnsweredOrShort e r old new → Served (number_of old) e [] (unless_refused r) (seen old) (seen new)
served_or_short e (Ok reply) old new may same took = gained _ old new same took
served_or_short e (Err hall.NoMemory) old new may same took = (refl, may, gained _ old new same took)
served_or_short e (Err hall.Spent) old new may same refused = (refl, refused.history)

pub begins_by : (text : List ℕ) (e : Event) (r : Result Reply Spent) (old new : HallPass) → AnsweredBy text e r old new → StartsWith (seen new) (seen old)
begins_by text e (Ok reply) old new took = took-begins _ old new took
begins_by text e (Err fault) old new (none, rest) = refused-begins old new rest

pub begins : (e : Event) (r : Result Reply Spent) (old new : HallPass) → Answered e r old new → StartsWith (seen new) (seen old)
begins e (Ok reply) old new took = took-begins _ old new took
begins e (Err fault) old new rest = refused-begins old new rest

pub begins_or_short : (e : Event) (r : Result Reply HallFault) (old new : HallPass) → AnsweredOrShort e r old new → StartsWith (seen new) (seen old)
begins_or_short e (Ok reply) old new took = took-begins _ old new took
begins_or_short e (Err hall.NoMemory) old new took = took-begins _ old new took
begins_or_short e (Err hall.Spent) old new rest = refused-begins old new rest

pub marked_when : (text : List ℕ) (e : Event) (r : Result Reply Spent) (old new : HallPass) → AnsweredBy text e r old new
    → refused new ≡ marked_by (unless_spent r) (refused old)
marked_when text e (Ok reply) old new took = took.unmarked.1 ∙ sym took.unmarked.0
marked_when text e (Err fault) old new (none, refused) = refused.marked

pub marked : (e : Event) (r : Result Reply Spent) (old new : HallPass) → Answered e r old new
    → refused new ≡ marked_by (unless_spent r) (refused old)
marked e (Ok reply) old new took = took.unmarked.1 ∙ sym took.unmarked.0
marked e (Err fault) old new refused = refused.marked

pub marked_or_short : (e : Event) (r : Result Reply HallFault) (old new : HallPass) → AnsweredOrShort e r old new
    → refused new ≡ marked_by (unless_refused r) (refused old)
marked_or_short e (Ok reply) old new took = took.unmarked.1 ∙ sym took.unmarked.0
marked_or_short e (Err hall.NoMemory) old new took = took.unmarked.1 ∙ sym took.unmarked.0
marked_or_short e (Err hall.Spent) old new refused = refused.marked
