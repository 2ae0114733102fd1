-- Two sessions that are cut and resumed, and what their clients count.
use Rattle.std.specs.Prelude.{ℕ, zero, suc, List, [], ◌∷◌, ◌++◌, false}
use Rattle.stanza_tree.specs.declared.frame.Entry.{Entry}
use Rattle.sm_account.specs.Sessions.{Op, Begin, Push, Pull, Enable, Act, Drop, Resume}
use Rattle.sm_account.specs.Connections.{Connection}
use Rattle.sm_account.specs.Accounts.{Account}

-- A note is sent before the client enables stream management, so it isn't counted. Then three are sent on connection c,
-- which is lost after the client handled two of them. The client resumes on connection d, with its count 2.
abbrev pub notes_until_drop : {S : Type 0} → (c : ℕ) → (early one two three : Entry) → List (Op S)
notes_until_drop c early one two three =
    Begin c ∷ Push early ∷ Pull ∷ Enable ∷ Push one ∷ Push two ∷ Push three ∷ Pull ∷ Pull ∷ Pull ∷ Drop ∷ []

abbrev pub notes : {S : Type 0} → (c d : ℕ) → (early one two three : Entry) → List (Op S)
notes c d early one two three = notes_until_drop c early one two three ++ Resume d 2 ∷ Pull ∷ []

-- it handles two notes on the first connection, and one on the second
abbrev pub two_then_one : ℕ → ℕ
two_then_one zero = 2
two_then_one (suc i) = 1

abbrev pub reader : {S : Type 0} → Account S
reader = record { stanzas = []; handles = two_then_one; begins = λ i. 0; lowest = λ i. 0; highest = λ i. 0 }

-- What went over both connections, the later first: the third note alone is sent again.
abbrev pub notes_sent : {S : Type 0} → (c d : ℕ) → (one two three : Entry) → List (Connection S)
notes_sent c d one two three =
    record { number = d; carried = three ∷ []; arrived = []; short = false }
    ∷ record { number = c; carried = one ∷ two ∷ three ∷ []; arrived = []; short = false }
    ∷ []

-- A stanza is acted on before the client enables stream management. Then it sends five on connection c, which is lost
-- after three of them came and were acted on. The client resumes on connection d, and sends the last two again.
abbrev pub stanzas_until_drop : {S : Type 0} → (c : ℕ) → (early one two three : S) → List (Op S)
stanzas_until_drop c early one two three =
    Begin c ∷ Act early ∷ Enable ∷ Act one ∷ Act two ∷ Act three ∷ Drop ∷ []

abbrev pub stanzas : {S : Type 0} → (c d : ℕ) → (early one two three four five : S) → List (Op S)
stanzas c d early one two three four five =
    stanzas_until_drop c early one two three ++ Resume d 0 ∷ Act four ∷ Act five ∷ []

-- on the first connection it sends from its first stanza on, and on the second after three
abbrev pub from_the_fourth : ℕ → ℕ
from_the_fourth zero = 0
from_the_fourth (suc i) = 3

abbrev pub writer : {S : Type 0} → (one two three four five : S) → Account S
writer one two three four five = record {
  stanzas = one ∷ two ∷ three ∷ four ∷ five ∷ [];
  handles = λ i. 0;
  begins = from_the_fourth;
  lowest = λ i. 0;
  highest = λ i. 5;
}

abbrev pub stanzas_came : {S : Type 0} → (c d : ℕ) → (one two three four five : S) → List (Connection S)
stanzas_came c d one two three four five =
    record { number = d; carried = []; arrived = four ∷ five ∷ []; short = false }
    ∷ record { number = c; carried = []; arrived = one ∷ two ∷ three ∷ []; short = false }
    ∷ []
