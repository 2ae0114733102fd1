-- What an account line is, and its fault.
use Rattle.std.specs.Prelude.{◌≡◌, ℕ, nat_lt, Bool, List, length, bytes_eq, Option, Some, None, Result, Ok, Err, ⊤, if◌then◌else◌}
use Rattle.std.specs.List.{list_any}
use Rattle.account_book.specs.declared.account.Account.{Account}
use Rattle.account_book.specs.declared.fault.LineKind.{LineKind}
use Rattle.account_book.specs.declared.fault.LineKind.TheVariants as kind
use Rattle.account_book.specs.declared.fault.LineFault.{LineFault}
use Rattle.account_book.specs.declared.fault.LineFault.TheVariants.{NoMemory, Faulty}
use Rattle.account_book.specs.Entries.{Entry, entry_of}
use Rattle.account_book.specs.Fields.{Texts, fields_of, name_in, rounds_in, salt_in, key_in}

-- what was read, and then the rest by it: where nothing was read the line has this fault
abbrev pub need : {X Y : Type 0} → LineKind → Option X → (X → Result Y LineKind) → Result Y LineKind
need k None more = Err k
need k (Some x) more = more x

-- the account of these fields, or the kind of the first that is at fault
abbrev pub entry_in : Texts → Result Entry LineKind
entry_in f =
    need kind.Name (name_in f.name) (λ name.
    need kind.Rounds (rounds_in f.rounds) (λ rounds.
    need kind.Salt (salt_in f.salt) (λ salt.
    need kind.Key (key_in 20 f.stored1) (λ stored1.
    need kind.Key (key_in 20 f.server1) (λ server1.
    need kind.Key (key_in 32 f.stored256) (λ stored256.
    need kind.Key (key_in 32 f.server256) (λ server256.
    Ok (record {
      name = name;
      rounds = rounds;
      salt = salt;
      stored1 = stored1;
      server1 = server1;
      stored256 = stored256;
      server256 = server256;
    }))))))))

abbrev pub line_of : List ℕ → Result Entry LineKind
line_of line = need kind.Fields (fields_of line) entry_in

-- some account has this name
abbrev pub has_name : List Entry → List ℕ → Bool
has_name entries name = list_any (λ e. bytes_eq name e.name) entries

-- an account after those of the lines before it: its name is new, and there are at most so many
abbrev pub joined : (most : ℕ) → List Entry → Result Entry LineKind → Result Entry LineKind
joined most earlier (Err k) = Err k
joined most earlier (Ok e) = if has_name earlier e.name then Err kind.Twice else if nat_lt (length earlier) most then Ok e else Err kind.TooMany

-- the account of a line after those of the lines before it, of at most so many, or the line's first fault
abbrev pub line_after : (most : ℕ) → List Entry → List ℕ → Result Entry LineKind
line_after most earlier line = joined most earlier (line_of line)

-- why a field was not read: it has this fault. Want of memory has no cause here.
abbrev pub IsFault : {X : Type 0} → LineKind → Option X → LineFault → Type 0
IsFault k read (Faulty f) = (f ≡ k) × (read ≡ None)
IsFault k read NoMemory = ⊤

-- what was answered is what is read. Want of memory has no cause here.
abbrev pub Reads : Result Entry LineKind → Result Account LineFault → Type 0
Reads read (Ok a) = read ≡ Ok (entry_of a)
Reads read (Err (Faulty k)) = read ≡ Err k
Reads read (Err NoMemory) = ⊤
