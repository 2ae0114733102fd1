-- What an account says of each operation at its turn, in place of what it says of whole connections: proofs go forward
-- over the operations by this.
use Rattle.std.specs.Prelude.{◌≡◌, ℕ, ◌+◌, ◌≤◌, List, [], ◌∷◌, length, slice_get, Option, Some, None, Bool, true, false}
use Rattle.sm_account.specs.Sessions.{Hold, Held, Away, Op, Ack, Act, Short, Resume, named}
use Rattle.sm_account.specs.Connections.{Session, step}
use Rattle.sm_account.specs.Accounts.{Account, Acks, Resumes, present_place, total_handled}

-- no more was handled on the present connection than it carried
abbrev pub IsWithin : {S : Type 0} → Account S → Session S → Type 0
IsWithin a s = a.handles (present_place s) ≤ length s.trace.present.carried

-- a stanza is the next of its connection, where all before it were acted on
pub record IsNext {S : Type 0} (a : Account S) (s : Session S) (x : S) : Type 0 where
  pub next : slice_get a.stanzas (a.begins (present_place s) + length s.trace.present.arrived) ≡ Some x
  pub whole : s.trace.present.short ≡ false

abbrev pub GoesOnIf : {S : Type 0} → Account S → Session S → (said h v : ℕ) → Option ℕ → Type 0
GoesOnIf a s said h v None = v ≡ said
GoesOnIf a s said h v (Some n) = IsWithin a s × Resumes a s h × (v ≡ total_handled a s)

abbrev pub Meets : {S : Type 0} → Bool → Hold → Account S → Session S → (said : ℕ) → Op S → (v : ℕ) → Type 0
Meets true (Held d) a s said (Ack h) v = Acks a s said h v
Meets true (Held d) a s said (Act x) v = (v ≡ said) × IsNext a s x
Meets true (Held d) a s said (Short x) v = (v ≡ said) × IsNext a s x
Meets true (Held d) a s said (Resume c h) v = GoesOnIf a s said h v (named s.core h)
Meets true Away a s said (Resume c h) v = GoesOnIf a s said h v (named s.core h)
Meets counts hold a s said op v = v ≡ said

abbrev pub Follows : {S : Type 0} → Account S → Session S → (said : ℕ) → List (Op S) → Type 0
Follows a s said [] = IsWithin a s
Follows a s said (op ∷ ops) =
    (v : ℕ) × Meets s.core.counts s.core.hold a s said op v × Follows a (step s op) v ops
