-- The event of each task can come in a house of eight lines.
use Rattle.std.proofs.Common.{◌≡◌, ℕ, ◌<◌, ◌^◌, List, ◌++◌, sym, subst, arith, inl, Some}
use Rattle.std.specs.Prelude.{IfOk, Result, Ok, Err}
use Rattle.house_model.specs.Histories.{Meets, line_of}
use Rattle.house_model.specs.declared.event.Event.{Event}
use Rattle.replay_script.specs.DrillSections.{order_by, orders_by}
use Rattle.replay_script.specs.DrillStands.{IsFirst, IsNextBy}
use Rattle.replay_script.specs.Drills.{Order, Tally, drawn, event_of}
use Rattle.replay_script.specs.declared.drill_section.Task.{Task}
use Rattle.replay_script.specs.declared.drill_section.Task.TheVariants as task
use Rattle.replay_script.proofs.DrillWords.{enter_sent, to_client_sent, to_room_sent, unlock_sent}

meets : (cs : ℕ → Tally) (i k t x : ℕ) (next : Task) → i < 8 → k < 2 ^ 64 → Meets (event_of cs (order_by i k t x next))
meets cs i k t x task.Bind low small = omega arith
meets cs i k t x task.Enter low small = inl (enter_sent i low)
meets cs i k t x task.Unlock low small = inl unlock_sent
meets cs i k t x task.SayInRoom low small = inl (to_room_sent k small)
meets cs i k t x task.SayToClient low small = inl (to_client_sent (drawn 8 x) k (omega arith) small)
meets cs i k t x next low small = tt

lined : (cs : ℕ → Tally) (i k t x : ℕ) (next : Task) → i < 8 → line_of (event_of cs (order_by i k t x next)) < 8
lined cs i k t x task.Open low = low
lined cs i k t x next low = low

is_first : (cs : ℕ → Tally) (i k t x : ℕ) (next : Task) (e : Event) → i < 8 → k < 2 ^ 64 → e ≡ event_of cs (order_by i k t x next)
    → IsFirst cs (order_by i k t x next) e
is_first cs i k t x next e low small is = record {
  event = is;
  meets = subst Meets (sym is) (meets cs i k t x next low small);
  line = subst (λ (a : Event). line_of a < 8) (sym is) (lined cs i k t x next low);
}

pub first_if : {E : Type 0} (cs : ℕ → Tally) (i k t x : ℕ) (next : Task) (r : Result Event E) → i < 8 → k < 2 ^ 64
    → IfOk r (λ e. e ≡ event_of cs (order_by i k t x next)) → IfOk r (IsFirst cs (order_by i k t x next))
first_if cs i k t x next (Ok e) low small is = is_first cs i k t x next e low small is
first_if cs i k t x next (Err fault) low small is = tt

pub is_next : (cs : ℕ → Tally) (i k t x : ℕ) (next : Task) (others : List Order) (e : Event) → IsFirst cs (order_by i k t x next) e
    → IsNextBy cs (orders_by i k t x next ++ others) (Some e)
is_next cs i k t x task.Open others e h = h
is_next cs i k t x next others e h = h
