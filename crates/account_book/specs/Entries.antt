-- An account, and its line in a list.
use Rattle.std.specs.Prelude.{ℕ, ◌≤◌, List, ◌++◌, length, codes, IsTrue}
use Rattle.std.specs.Fmt.{decimal}
use Rattle.base64.specs.GeneralPurpose.{IsBytes}
use Rattle.jid_core.specs.Preparation.{is_local}
use Rattle.scram_core.specs.Login.{base64_of}
use Rattle.account_book.specs.declared.account.Account.{Account}

-- What a line says: a name, and what a server keeps of a password (RFC 5802, 3; RFC 7677).
pub record Entry : Type 0 where
  pub name : List ℕ
  pub rounds : ℕ
  pub salt : List ℕ
  pub stored1 : List ℕ  -- StoredKey over SHA-1
  pub server1 : List ℕ  -- ServerKey over SHA-1
  pub stored256 : List ℕ  -- StoredKey over SHA-256
  pub server256 : List ℕ  -- ServerKey over SHA-256

-- an account as its name and keys
abbrev pub entry_of : Account → Entry
entry_of a = record {
  name = a.name;
  rounds = a.keys.rounds;
  salt = a.keys.salt.items;
  stored1 = a.keys.stored1;
  server1 = a.keys.server1;
  stored256 = a.keys.stored256;
  server256 = a.keys.server256;
}

-- the line `NAME ROUNDS SALT STORED1 SERVER1 STORED256 SERVER256`, with one space between and LF at its end
abbrev pub line_text : Entry → List ℕ
line_text e =
    e.name ++ codes " " ++ decimal e.rounds ++ codes " " ++ base64_of e.salt ++ codes " " ++ base64_of e.stored1 ++ codes " " ++ base64_of e.server1
    ++ codes " " ++ base64_of e.stored256 ++ codes " " ++ base64_of e.server256 ++ codes "\n"

-- so many bytes
pub record IsSized (least most : ℕ) (bytes : List ℕ) : Type 0 where
  pub least_is : least ≤ length bytes
  pub most_is : length bytes ≤ most
  pub are_bytes : IsBytes bytes

-- what an account line may say
pub record IsEntry (e : Entry) : Type 0 where
  pub local_part : IsTrue (is_local e.name)
  pub least_rounds : 4096 ≤ e.rounds
  pub most_rounds : e.rounds ≤ 1000000
  pub salt : IsSized 8 64 e.salt
  pub stored1 : IsSized 20 20 e.stored1
  pub server1 : IsSized 20 20 e.server1
  pub stored256 : IsSized 32 32 e.stored256
  pub server256 : IsSized 32 32 e.server256
