-- How an account line is made of a password line.
use Rattle.std.specs.Prelude.{◌≡◌, ◌⊎◌, ℕ, ◌≤◌, nat_le, Bool, ◌&&◌, List, [], ◌∷◌, ◌++◌, length, codes, Option, Some, None, Result, Ok, Err, IsTrue, ⊤}
use Rattle.std.specs.List.{list_all}
use Rattle.account_book.specs.Entries.{line_text}
use Rattle.account_book.specs.Keys.{entry_for}
use Rattle.script_play.specs.declared.status.Status.{Status}
use Rattle.script_play.specs.declared.status.Status.TheVariants as status
use Rattle.script_play.specs.Readings.{Begins, Ends}
use Rattle.script_play.specs.Runs.{Front}

-- printable ASCII
abbrev pub is_printable : ℕ → Bool
is_printable b = nat_le 32 b && nat_le b 126

-- a password: 1 to 256 bytes of printable ASCII
pub record IsPassword (password : List ℕ) : Type 0 where
  pub least_is : 1 ≤ length password
  pub most_is : length password ≤ 256
  pub printable : IsTrue (list_all is_printable password)

-- its line: the password, and then LF or nothing
pub record IsPasswordLine (password bytes : List ℕ) : Type 0 where
  pub valid : IsPassword password
  pub line : (bytes ≡ password) ⊎ (bytes ≡ password ++ codes "\n")

-- where the source tells its bytes, they are the line of this password, and all were read
abbrev pub IsRead : List ℕ → Option (List ℕ) → Option (List ℕ) → Type 0
IsRead password left now = (all : List ℕ) → left ≡ Some all → IsPasswordLine password all × (now ≡ Some [])

-- where the source tells its bytes, they are the line of no password
abbrev pub IsNoLine : Option (List ℕ) → Type 0
IsNoLine left = (all : List ℕ) → left ≡ Some all → (password : List ℕ) → IsPasswordLine password all → ⊥

-- where the source tells its bytes, it gave so many of them at most
abbrev pub ReadsAtMost : ℕ → Option (List ℕ) → Option (List ℕ) → Type 0
ReadsAtMost most left now = (all : List ℕ) → left ≡ Some all → (front : List ℕ)
    × ((rest : List ℕ) × ((all ≡ front ++ rest) × (now ≡ Some rest) × (length front ≤ most)))

-- a password was read, and this holds of the account line that is made of it, which has 4096 rounds (RFC 5802, 3; RFC 7677)
pub record MakesLine (name salt : List ℕ) (left left_now : Option (List ℕ)) (Holds : List ℕ → Type 0) : Type 0 where
  pub password : List ℕ
  pub valid : IsPassword password
  pub read : IsRead password left left_now
  pub holds : Holds (line_text (entry_for name password salt))

-- How `account` ends, of a source that had `left` bytes and has `left_now`, and a sink. It writes the line, where the sink fails a front of it,
-- and in all other cases nothing.
abbrev pub Accounted : {K : Type 0} → (K → Option (List ℕ)) → (name salt : List ℕ) → (left left_now : Option (List ℕ)) → K → K → Status → Type 0
Accounted took name salt left left_now sink sink_now status.Done =
    MakesLine name salt left left_now (λ line. (taken : List ℕ) → took sink ≡ Some taken → took sink_now ≡ Some (taken ++ line))
Accounted took name salt left left_now sink sink_now status.WriteFault =
    MakesLine name salt left left_now (λ line. (taken : List ℕ) → took sink ≡ Some taken → Front taken line (took sink_now))
Accounted took name salt left left_now sink sink_now (status.Accounts line) = (line ≡ 1) × IsNoLine left × (sink_now ≡ sink)
Accounted took name salt left left_now sink sink_now status.ReadFault = sink_now ≡ sink
Accounted took name salt left left_now sink sink_now status.NoMemory = sink_now ≡ sink
Accounted took name salt left left_now sink sink_now status.Usage = ⊥
Accounted took name salt left left_now sink sink_now (status.Script line) = ⊥
Accounted took name salt left left_now sink sink_now status.ListenFault = ⊥

-- what came of reading a password line
abbrev pub Refuses : Option (List ℕ) → Status → Type 0
Refuses left (status.Accounts line) = (line ≡ 1) × IsNoLine left
Refuses left status.ReadFault = ⊤
Refuses left status.NoMemory = ⊤
Refuses left status.Done = ⊥
Refuses left status.WriteFault = ⊥
Refuses left status.Usage = ⊥
Refuses left (status.Script line) = ⊥
Refuses left status.ListenFault = ⊥

-- a byte was read, or the source ended, or nothing was read
abbrev pub GivesByte : Option (List ℕ) → Option (List ℕ) → Result (Option ℕ) Status → Type 0
GivesByte old now (Ok (Some b)) = Begins old now (b ∷ [])
GivesByte old now (Ok None) = Ends old now
GivesByte old now (Err s) = now ≡ old
