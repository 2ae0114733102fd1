-- Where the connections of a session differ, each has what a log of all has of it.
use Rattle.std.proofs.Common.{◌≡◌, ℕ, List, [], ◌∷◌, ◌++◌, Bool, true, false, eqb, eq-eqb, refl, sym, ap, ◌∙◌, append-nil, if◌then◌else◌}
use Rattle.std.proofs.lemmas.Bool.{eqb-true}
use Rattle.stanza_tree.specs.declared.frame.Entry.{Entry}
use Rattle.sm_account.specs.Connections.{Connection}
use Rattle.sm_account.specs.Logs.{Given, Taken, carried_on, all_carried, arrived_on, all_arrived, entries_of, stanzas_of, numbers, NotIn, AreDistinct, AllAre}

pick : {A : Type 0} (b : Bool) (x : A) (xs ys : List A)
    → (if b then x ∷ (xs ++ ys) else xs ++ ys) ≡ (if b then x ∷ xs else xs) ++ ys
pick true x xs ys = refl
pick false x xs ys = refl

not_same : (a b : ℕ) (t : Bool) → eqb a b ≡ t → (a ≡ b → ⊥) → eqb a b ≡ false
not_same a b true is ne = absurd (ne (eqb-true a b is))
not_same a b false is ne = is

entries_append : (c : ℕ) (xs ys : List Given) → entries_of c (xs ++ ys) ≡ entries_of c xs ++ entries_of c ys
entries_append c [] ys = refl
entries_append c (g ∷ gs) ys =
    ap (λ (l : List Entry). if eqb g.connection c then g.entry ∷ l else l) (entries_append c gs ys)
    ∙ pick (eqb g.connection c) g.entry (entries_of c gs) (entries_of c ys)

entries_here : (c : ℕ) (es : List Entry) → entries_of c (carried_on c es) ≡ es
entries_here c [] = refl
entries_here c (e ∷ es) =
    let others : List Entry = entries_of c (carried_on c es) in
    ap (λ (b : Bool). if b then e ∷ others else others) (eq-eqb c c refl)
    ∙ ap (λ (l : List Entry). e ∷ l) (entries_here c es)

entries_else : (d c : ℕ) (es : List Entry) → (d ≡ c → ⊥) → entries_of c (carried_on d es) ≡ []
entries_else d c [] ne = refl
entries_else d c (e ∷ es) ne =
    let others : List Entry = entries_of c (carried_on d es) in
    ap (λ (b : Bool). if b then e ∷ others else others) (not_same d c (eqb d c) refl ne)
    ∙ entries_else d c es ne

entries_none : {S : Type 0} (c : ℕ) (cs : List (Connection S)) → NotIn c (numbers cs)
    → entries_of c (all_carried cs) ≡ []
entries_none c [] none = refl
entries_none c (d ∷ ds) none =
    entries_append c (all_carried ds) (carried_on d.number d.carried)
    ∙ (ap (λ (es : List Entry). es ++ entries_of c (carried_on d.number d.carried)) (entries_none c ds none.1)
    ∙ entries_else d.number c d.carried none.0)

stanzas_append : {S : Type 0} (c : ℕ) (xs ys : List (Taken S))
    → stanzas_of c (xs ++ ys) ≡ stanzas_of c xs ++ stanzas_of c ys
stanzas_append c [] ys = refl
stanzas_append {S = S} c (t ∷ ts) ys =
    ap (λ (l : List S). if eqb t.connection c then t.stanza ∷ l else l) (stanzas_append c ts ys)
    ∙ pick (eqb t.connection c) t.stanza (stanzas_of c ts) (stanzas_of c ys)

stanzas_here : {S : Type 0} (c : ℕ) (xs : List S) → stanzas_of c (arrived_on c xs) ≡ xs
stanzas_here c [] = refl
stanzas_here {S = S} c (x ∷ xs) =
    let others : List S = stanzas_of c (arrived_on c xs) in
    ap (λ (b : Bool). if b then x ∷ others else others) (eq-eqb c c refl)
    ∙ ap (λ (l : List S). x ∷ l) (stanzas_here c xs)

stanzas_else : {S : Type 0} (d c : ℕ) (xs : List S) → (d ≡ c → ⊥) → stanzas_of c (arrived_on d xs) ≡ []
stanzas_else d c [] ne = refl
stanzas_else {S = S} d c (x ∷ xs) ne =
    let others : List S = stanzas_of c (arrived_on d xs) in
    ap (λ (b : Bool). if b then x ∷ others else others) (not_same d c (eqb d c) refl ne)
    ∙ stanzas_else d c xs ne

stanzas_none : {S : Type 0} (c : ℕ) (cs : List (Connection S)) → NotIn c (numbers cs)
    → stanzas_of c (all_arrived cs) ≡ []
stanzas_none c [] none = refl
stanzas_none {S = S} c (d ∷ ds) none =
    stanzas_append c (all_arrived ds) (arrived_on d.number d.arrived)
    ∙ (ap (λ (xs : List S). xs ++ stanzas_of c (arrived_on d.number d.arrived)) (stanzas_none c ds none.1)
    ∙ stanzas_else d.number c d.arrived none.0)

-- one connection more, of another number
one_more : {S : Type 0} (n : ℕ) (cs : List (Connection S)) (f f' : ℕ → List Entry) (g g' : ℕ → List S)
    → ((c : ℕ) → (n ≡ c → ⊥) → (f c ≡ f' c) × (g c ≡ g' c)) → NotIn n (numbers cs) → AllAre f g cs → AllAre f' g' cs
one_more n [] f f' g g' same none all = tt
one_more n (c ∷ cs) f f' g g' same none all =
    let at = same c.number (λ e. none.0 (sym e)) in
    (all.0 ∙ at.0, all.1 ∙ at.1, one_more n cs f f' g g' same none.1 all.2)

pub all_are : {S : Type 0} (cs : List (Connection S)) → AreDistinct (numbers cs)
    → AllAre (λ c. entries_of c (all_carried cs)) (λ c. stanzas_of c (all_arrived cs)) cs
all_are [] apart = tt
all_are {S = S} (d ∷ ds) apart = (
  sym (
      entries_append d.number (all_carried ds) (carried_on d.number d.carried)
      ∙ (ap (λ (es : List Entry). es ++ entries_of d.number (carried_on d.number d.carried))
      (entries_none d.number ds apart.0)
      ∙ entries_here d.number d.carried)
      ),
  sym (
      stanzas_append d.number (all_arrived ds) (arrived_on d.number d.arrived)
      ∙ (ap (λ (xs : List S). xs ++ stanzas_of d.number (arrived_on d.number d.arrived))
      (stanzas_none d.number ds apart.0)
      ∙ stanzas_here d.number d.arrived)
      ),
  one_more d.number ds _ _ _ _
      (λ c ne. (
        sym (
            entries_append c (all_carried ds) (carried_on d.number d.carried)
            ∙ (ap (λ (es : List Entry). entries_of c (all_carried ds) ++ es) (entries_else d.number c d.carried ne)
            ∙ append-nil _)
            ),
        sym (
            stanzas_append c (all_arrived ds) (arrived_on d.number d.arrived)
            ∙ (ap (λ (xs : List S). stanzas_of c (all_arrived ds) ++ xs) (stanzas_else d.number c d.arrived ne)
            ∙ append-nil _)
            ),
      ))
      apart.0 (all_are ds apart.1),
)
