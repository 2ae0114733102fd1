-- From what a turn did to what a call answers.
use Rattle.std.proofs.Common.{◌≡◌, ℕ, List, [], ◌++◌, Result, Ok, Err, IfOk, IfErr, refl, sym, ◌∙◌}
use Rattle.std.proofs.lemmas.List.{append-nil}
use Rattle.turn_lock.specs.declared.tokens.Spent.{Spent}
use Rattle.house_model.specs.declared.event.Event.{Event}
use Rattle.house_model.specs.declared.reply.Reply.{Reply}
use Rattle.house_model.specs.Histories.{made, ended, kept_step}
use Rattle.house_core.specs.Houses.{HouseRecord, held}
use Rattle.hall.specs.Turns.{text_in}
use Rattle.hall.specs.Stories.{HallPass}
use Rattle.hall.specs.Halls.{Took, WasRefused, Answered, AnsweredOrShort, AnsweredBy, joined}

pub answered : (e : Event) (r : Result Reply Spent) (old new : HallPass) (before after : List ℕ)
    → IfOk r (λ reply. HouseRecord × (after ≡ before ++ []) × Took (made e reply []) old new) → IfErr r (λ _. WasRefused old new)
    → Answered e r old new
answered e (Ok reply) old new before after took refused = took.2
answered e (Err fault) old new before after took refused = refused

pub answered_or_short : {E : Type 0} (e : Event) (r : Result (Result Reply E) Spent) (old new : HallPass) (before after : List ℕ)
    → IfOk r (λ answer. HouseRecord × (after ≡ before ++ text_in (ended e answer).outcome) × Took (ended e answer) old new)
    → IfErr r (λ _. WasRefused old new) → AnsweredOrShort e (joined r) old new
answered_or_short e (Ok (Ok reply)) old new before after took refused = took.2
answered_or_short e (Ok (Err short)) old new before after took refused = took.2
answered_or_short e (Err fault) old new before after took refused = refused

pub answered_by : (e : Event) (r : Result Reply Spent) (old new : HallPass) (before after : List ℕ)
    → IfOk r (λ reply. (k : HouseRecord) × (after ≡ before ++ (kept_step (held k) e).text) × Took (made e reply (kept_step (held k) e).text) old new)
    → IfErr r (λ _. WasRefused old new) → IfErr r (λ _. after ≡ before)
    → (text : List ℕ) × (after ≡ before ++ text) × AnsweredBy text e r old new
answered_by e (Ok reply) old new before after (k, given, took) refused same = ((kept_step (held k) e).text, given, took)
answered_by e (Err fault) old new before after took refused same = ([], same ∙ sym (append-nil before), (refl, refused))
