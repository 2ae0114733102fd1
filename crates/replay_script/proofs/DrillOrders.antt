-- The sections of a drill, one after the other, are its orders.
use Rattle.std.proofs.Common.{◌≡◌, ℕ, zero, suc, ◌+◌, ◌-◌, ◌*◌, ◌==◌, ◌<◌, ◌≤◌, List, [], ◌∷◌, ◌++◌, map, flat_map, drop, refl, sym, ap, ◌∙◌, arith}
use Rattle.std.proofs.Common.{append_assoc, Bool, true, false, if◌then◌else◌, codes, Some, nat_lt}
use Rattle.std.proofs.lemmas.List.{drop_all}
use Rattle.house_model.specs.declared.event.Event.TheVariants.{OpenLine, Login, Bind, Enable, Act, Pull, CloseLine}
use Rattle.replay_script.specs.DrillSections.{order_by, orders_by, task_for, to_come}
use Rattle.replay_script.specs.DrillStanzas.{enter, to_client, to_room, unlock, user}
use Rattle.replay_script.specs.DrillTasks.{tasks_from}
use Rattle.replay_script.specs.Drills.{AckAll, Do, Order, PullAll, after_round, clients, come_again, dice, drawn, ending, from, orders, round, rounds, start, stirred}
use Rattle.replay_script.specs.declared.drill_schedule.Schedule.{Schedule}
use Rattle.replay_script.specs.declared.drill_section.Task.{Task}
use Rattle.replay_script.specs.declared.drill_section.Task.TheVariants as task

-- Clients that are left.

first-left : (i : ℕ) → i < 8 → drop i clients ≡ i ∷ drop (i + 1) clients
first-left zero h = refl
first-left (suc zero) h = refl
first-left (suc (suc zero)) h = refl
first-left (suc (suc (suc zero))) h = refl
first-left (suc (suc (suc (suc zero)))) h = refl
first-left (suc (suc (suc (suc (suc zero))))) h = refl
first-left (suc (suc (suc (suc (suc (suc zero)))))) h = refl
first-left (suc (suc (suc (suc (suc (suc (suc zero))))))) h = refl
first-left (suc (suc (suc (suc (suc (suc (suc (suc i)))))))) h = absurd (omega arith)

none-left : (i : ℕ) → 8 ≤ i → drop i clients ≡ []
none-left i h = drop_all i clients h

-- A client comes.

start-orders : (first : Bool) (i : ℕ) → map (order_by i 0 0 0) (tasks_from first task.Open)
    ≡ Do (OpenLine i) ∷ Do (Login i (user i)) ∷ Do (Bind i (codes "b") (Some (codes "r")) 0 (dice i)) ∷ Do (Enable i true (dice i)) ∷ Do (Pull i 0)
    ∷ Do (Pull i 0) ∷ Do (Act i (enter i) 0) ∷ (if first then Do (Act i unlock 0) ∷ [] else [])
start-orders true i = refl
start-orders false i = refl

pub start_comes : (i : ℕ) (later end : List Order) → i < 8
    → orders_by i 0 0 0 task.Open ++ (flat_map start (drop (i + 1) clients) ++ later ++ end) ≡ flat_map start (drop i clients) ++ later ++ end
start_comes i later end h =
    let others : List Order = flat_map start (drop (i + 1) clients) in
    ap (λ l. l ++ (others ++ later ++ end)) (start-orders (i == 0) i)
    ∙ sym (append_assoc (start i) (others ++ later) end)
    ∙ ap (λ l. l ++ end) (sym (append_assoc (start i) others later))
    ∙ ap (λ l. flat_map start l ++ later ++ end) (sym (first-left i h))

-- A round is played.

task-orders : (a b c d : Bool) (i k y : ℕ)
    → orders_by i k (1000 * k) y (if a then task.SayInRoom else if b then task.SayToClient else if c then task.PullAll else if d then task.AckAll else task.DropLine)
    ≡ (if a then Do (Act i (to_room k) (1000 * k)) ∷ []
    else if b then Do (Act i (to_client (drawn 8 y) k) (1000 * k)) ∷ []
    else if c then PullAll i (1000 * k) ∷ []
    else if d then AckAll i ∷ []
    else come_again i (drawn 4 y) (1000 * k))
task-orders true b c d i k y = refl
task-orders false true c d i k y = refl
task-orders false false true d i k y = refl
task-orders false false false true i k y = refl
task-orders false false false false i k y = refl

pub round_orders : (k x i m y : ℕ) (next : Task) → i ≡ drawn 8 (stirred x) → m ≡ 1000 * k → y ≡ stirred (stirred (stirred x))
    → next ≡ task_for (drawn 8 (stirred (stirred x))) → orders_by i k m y next ≡ round k x
round_orders k x i m y next who when more what =
    let op = drawn 8 (stirred (stirred x)) in
    ap (λ i. orders_by i k m y next) who ∙ ap (λ m. orders_by (drawn 8 (stirred x)) k m y next) when
    ∙ ap (λ y. orders_by (drawn 8 (stirred x)) k (1000 * k) y next) more
    ∙ ap (λ next. orders_by (drawn 8 (stirred x)) k (1000 * k) (stirred (stirred (stirred x))) next) what
    ∙ task-orders (nat_lt op 3) (op == 3) (nat_lt op 6) (op == 6) (drawn 8 (stirred x)) k (stirred (stirred (stirred x)))

pub round_comes : (e n p x : ℕ) (now end : List Order) → 8 ≤ e → p < n → now ≡ round (p + 1) x
    → now ++ (flat_map start (drop e clients) ++ rounds (n - (p + 1)) (p + 1 + 1) (after_round x) ++ end)
    ≡ flat_map start (drop e clients) ++ rounds (n - p) (p + 1) x ++ end
round_comes e n p x now end all h is =
    let later : List Order = rounds (n - (p + 1)) (p + 1 + 1) (after_round x) in
    let one : suc (n - (p + 1)) ≡ n - p = omega arith in
    ap (λ l. now ++ (flat_map start l ++ later ++ end)) (none-left e all)
    ∙ sym (append_assoc now later end)
    ∙ ap (λ l. l ++ later ++ end) is
    ∙ ap (λ m. rounds m (p + 1) x ++ end) one
    ∙ ap (λ l. flat_map start l ++ rounds (n - p) (p + 1) x ++ end) (sym (none-left e all))

-- The ending.

before-ending : (e n p x : ℕ) → 8 ≤ e → n ≤ p → flat_map start (drop e clients) ++ rounds (n - p) (p + 1) x ≡ []
before-ending e n p x all h =
    let none : n - p ≡ 0 = omega arith in
    ap (λ l. flat_map start l ++ rounds (n - p) (p + 1) x) (none-left e all) ∙ ap (λ m. rounds m (p + 1) x) none

pub pull_comes : (e n p x q t : ℕ) (closing : List Order) → 8 ≤ e → n ≤ p → q < 8
    → orders_by q 0 t 0 task.PullAll
    ++ (flat_map start (drop e clients) ++ rounds (n - p) (p + 1) x ++ (map (λ i. PullAll i t) (drop (q + 1) clients) ++ closing))
    ≡ flat_map start (drop e clients) ++ rounds (n - p) (p + 1) x ++ (map (λ i. PullAll i t) (drop q clients) ++ closing)
pull_comes e n p x q t closing all h more =
    let none = before-ending e n p x all h in
    ap (λ l. PullAll q t ∷ (l ++ (map (λ i. PullAll i t) (drop (q + 1) clients) ++ closing))) none
    ∙ ap (λ l. map (λ i. PullAll i t) l ++ closing) (sym (first-left q more))
    ∙ ap (λ l. l ++ (map (λ i. PullAll i t) (drop q clients) ++ closing)) (sym none)

pub close_comes : (e n p x q r t : ℕ) → 8 ≤ e → n ≤ p → 8 ≤ q → r < 8
    → orders_by r 0 t 0 task.CloseLine
    ++ (flat_map start (drop e clients) ++ rounds (n - p) (p + 1) x
    ++ (map (λ i. PullAll i t) (drop q clients) ++ map (λ i. Do (CloseLine i t)) (drop (r + 1) clients)))
    ≡ flat_map start (drop e clients) ++ rounds (n - p) (p + 1) x
    ++ (map (λ i. PullAll i t) (drop q clients) ++ map (λ i. Do (CloseLine i t)) (drop r clients))
close_comes e n p x q r t all h pulled more =
    let none = before-ending e n p x all h in
    let gone = none-left q pulled in
    ap (λ l. Do (CloseLine r t) ∷ (l ++ (map (λ i. PullAll i t) (drop q clients) ++ map (λ i. Do (CloseLine i t)) (drop (r + 1) clients)))) none
    ∙ ap (λ l. Do (CloseLine r t) ∷ (map (λ i. PullAll i t) l ++ map (λ i. Do (CloseLine i t)) (drop (r + 1) clients))) gone
    ∙ ap (λ l. map (λ i. Do (CloseLine i t)) l) (sym (first-left r more))
    ∙ ap (λ l. map (λ i. PullAll i t) l ++ map (λ i. Do (CloseLine i t)) (drop r clients)) (sym gone)
    ∙ ap (λ l. l ++ (map (λ i. PullAll i t) (drop q clients) ++ map (λ i. Do (CloseLine i t)) (drop r clients))) (sym none)

pub none_comes : (s : Schedule) → 8 ≤ s.entered → s.rounds ≤ s.played → 8 ≤ s.pulled → 8 ≤ s.closed → to_come s ≡ []
none_comes s all h pulled closed =
    let t = 1000 * (s.rounds + 1) in
    ap (λ l. l ++ (map (λ i. PullAll i t) (drop s.pulled clients) ++ map (λ i. Do (CloseLine i t)) (drop s.closed clients)))
    (before-ending s.entered s.rounds s.played s.drawn all h)
    ∙ ap (λ l. map (λ i. PullAll i t) l ++ map (λ i. Do (CloseLine i t)) (drop s.closed clients)) (none-left s.pulled pulled)
    ∙ ap (λ l. map (λ i. Do (CloseLine i t)) l) (none-left s.closed closed)

-- At the beginning all sections are to come.

pub all_come : (n key : ℕ) → flat_map start clients ++ rounds (n - 0) 1 key ++ ending (1000 * (n + 1)) ≡ orders n key
all_come n key = let all : n - 0 ≡ n = omega arith in ap (λ m. flat_map start clients ++ rounds m 1 key ++ ending (1000 * (n + 1))) all

-- Examples: three rounds, and from where a client resumes that was given ten stanzas and said eight.

three-rounds : rounds 3 1 7 ≡ come_again 6 1 1000 ++ Do (Act 1 (to_room 2) 2000) ∷ Do (Act 3 (to_room 3) 3000) ∷ []
three-rounds = refl

one-fewer : from 1 (record { pulled = 10; said = 8 }) ≡ 9
one-fewer = refl

no-fewer : from 3 (record { pulled = 10; said = 8 }) ≡ 8
no-fewer = refl
