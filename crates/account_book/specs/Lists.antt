-- A list of accounts as its lines.
use Rattle.std.specs.Prelude.{◌≡◌, ℕ, suc, ◌==◌, List, [], ◌∷◌, ◌++◌, length, map, Option, Some, None, Result, Ok, Err, ⊤, bytes_eq, if◌then◌else◌}
use Rattle.account_book.specs.declared.account.Account.{Account}
use Rattle.account_book.specs.declared.fault.LineKind.{LineKind}
use Rattle.account_book.specs.declared.fault.BookFault.{BookFault}
use Rattle.account_book.specs.declared.fault.BookFault.TheVariants as fault
use Rattle.account_book.specs.Entries.{Entry, entry_of}
use Rattle.account_book.specs.Lines.{line_after}

-- a byte before lines: it begins the first, and is a line of its own where it is LF
abbrev pub begun : ℕ → List (List ℕ) → List (List ℕ)
begun b [] = (b ∷ []) ∷ []
begun b (line ∷ more) = (b ∷ line) ∷ more

-- the lines of bytes, each with its LF; a last one may have none
abbrev pub lines_of : List ℕ → List (List ℕ)
lines_of [] = []
lines_of (b ∷ more) = if b == 10 then (b ∷ []) ∷ lines_of more else begun b (lines_of more)

-- the accounts of a list and the secret of its decoys
pub record Book : Type 0 where
  pub accounts : List Account
  pub secret : List ℕ

-- an account joins those before it, and then the rest: a fault is told with the number of its line, the first of which is 1
abbrev pub go_on : List Entry → Result Entry LineKind → (List Entry → Result (List Entry) (ℕ × LineKind)) → Result (List Entry) (ℕ × LineKind)
go_on earlier (Ok e) more = more (earlier ++ e ∷ [])
go_on earlier (Err k) more = Err (suc (length earlier), k)

-- the accounts of lines, after those of the lines before them, at most so many in all
abbrev pub entries_after : (most : ℕ) → List Entry → List (List ℕ) → Result (List Entry) (ℕ × LineKind)
entries_after most earlier [] = Ok earlier
entries_after most earlier (line ∷ more) = go_on earlier (line_after most earlier line) (λ entries. entries_after most entries more)

-- the accounts of a list of at most so many
abbrev pub entries_within : (most : ℕ) → List ℕ → Result (List Entry) (ℕ × LineKind)
entries_within most bytes = entries_after most [] (lines_of bytes)

-- the accounts of a list of at most 4,096
abbrev pub entries_of : List ℕ → Result (List Entry) (ℕ × LineKind)
entries_of bytes = entries_within 4096 bytes

-- the names of accounts, in their order
abbrev pub names_of : List Account → List (List ℕ)
names_of accounts = map (λ a. a.name) accounts

-- the account of a line after these, or the fault with the number of the line. Want of memory has no cause here.
abbrev pub IsNext : List Account → Result Entry LineKind → Result Account BookFault → Type 0
IsNext earlier read (Ok a) = read ≡ Ok (entry_of a)
IsNext earlier read (Err (fault.Line line kind)) = (read ≡ Err kind) × (line ≡ suc (length earlier))
IsNext earlier read (Err fault.NoMemory) = ⊤

-- what was answered is what is read. Want of memory has no cause here.
abbrev pub Gives : Result (List Entry) (ℕ × LineKind) → Result Book BookFault → Type 0
Gives read (Ok book) = read ≡ Ok (map entry_of book.accounts)
Gives read (Err (fault.Line line kind)) = read ≡ Err (line, kind)
Gives read (Err fault.NoMemory) = ⊤

-- the account of a name
abbrev pub named : List ℕ → List Account → Option Account
named name [] = None
named name (a ∷ more) = if bytes_eq name a.name then Some a else named name more
