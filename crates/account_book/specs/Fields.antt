-- The fields of an account line, and what each is read as.
use Rattle.std.specs.Prelude.{◌≡◌, ℕ, nat_le, ◌&&◌, List, length, bytes_eq, Option, Some, None, Result, Ok, Err, is_some, if◌then◌else◌}
use Rattle.std.specs.Option.{option_and_then}
use Rattle.std.specs.Result.{result_ok}
use Rattle.base64.specs.Engines.{standard}
use Rattle.base64.specs.GeneralPurpose.{decode_of}
use Rattle.jid_core.specs.Cuts.{before, after}
use Rattle.jid_core.specs.Preparation.{local_of}
use Rattle.jid_core.specs.declared.fault.JidFault.{JidFault}
use Rattle.sm_resume.specs.Spelling.{number_of}
use Rattle.account_book.specs.declared.fields.Fields.{Fields}

-- the seven fields, as they are written
pub record Texts : Type 0 where
  pub name : List ℕ
  pub rounds : List ℕ
  pub salt : List ℕ
  pub stored1 : List ℕ
  pub server1 : List ℕ
  pub stored256 : List ℕ
  pub server256 : List ℕ

abbrev pub texts_of : Fields → Texts
texts_of f = record {
  name = f.name.now;
  rounds = f.rounds.now;
  salt = f.salt.now;
  stored1 = f.stored1.now;
  server1 = f.server1.now;
  stored256 = f.stored256.now;
  server256 = f.server256.now;
}

-- what is read of a text, and then the rest by it
abbrev pub on : {X Y : Type 0} → Option X → (X → Option Y) → Option Y
on read more = option_and_then more read

-- what stands before the first such byte and after it, and then the rest by both
abbrev pub cut : {Y : Type 0} → ℕ → List ℕ → (List ℕ → List ℕ → Option Y) → Option Y
cut byte text more = option_and_then (more (before byte text)) (after byte text)

-- seven fields with one space between
abbrev pub texts_in : List ℕ → Option Texts
texts_in text =
    cut 32 text (λ name rest. cut 32 rest (λ rounds rest. cut 32 rest (λ salt rest. cut 32 rest (λ stored1 rest.
    cut 32 rest (λ server1 rest. cut 32 rest (λ stored256 server256.
    if is_some (after 32 server256) then None else Some (record {
      name = name;
      rounds = rounds;
      salt = salt;
      stored1 = stored1;
      server1 = server1;
      stored256 = stored256;
      server256 = server256;
    })))))))

-- the fields of a line, which ends with LF
abbrev pub fields_of : List ℕ → Option Texts
fields_of line = cut 10 line (λ text end. texts_in text)

-- NAME: a local part that is written as it is prepared (RFC 7622, 3.3)
abbrev pub as_written : List ℕ → Result (List ℕ) JidFault → Option (List ℕ)
as_written text (Ok part) = if bytes_eq part text then Some part else None
as_written text (Err fault) = None

abbrev pub name_in : List ℕ → Option (List ℕ)
name_in text = as_written text (local_of text)

-- ROUNDS: a number from 4096 to 1000000
abbrev pub are_rounds : ℕ → Option ℕ
are_rounds n = if nat_le 4096 n && nat_le n 1000000 then Some n else None

abbrev pub rounds_in : List ℕ → Option ℕ
rounds_in text = on (number_of text) are_rounds

-- the bytes that a text is the base64 of (RFC 4648, 4, with its padding)
unfoldable pub bytes_in : List ℕ → Option (List ℕ)
bytes_in text = result_ok (decode_of standard text)

-- bytes, if they are so many
abbrev pub sized : ℕ → ℕ → List ℕ → Option (List ℕ)
sized least most bytes = if nat_le least (length bytes) && nat_le (length bytes) most then Some bytes else None

-- SALT: base64 of 8 to 64 bytes
abbrev pub salt_in : List ℕ → Option (List ℕ)
salt_in text = on (bytes_in text) (sized 8 64)

-- a key: base64 of so many bytes
abbrev pub key_in : ℕ → List ℕ → Option (List ℕ)
key_in size text = on (bytes_in text) (sized size size)

-- the line was split into these fields
abbrev pub Splits : Option Texts → Option Fields → Type 0
Splits read None = read ≡ None
Splits read (Some f) = read ≡ Some (texts_of f)
