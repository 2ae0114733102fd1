-- The user that a first text of SCRAM names.
use Rattle.std.specs.Prelude.{◌≡◌, ℕ, List, Option, Some, None, Result, Ok, Err}
use Rattle.jid_core.specs.Preparation.{local_of}
use Rattle.jid_core.specs.declared.fault.JidFault.{JidFault}
use Rattle.scram_core.specs.declared.proof.Account.TheVariants as account
use Rattle.scram_core.specs.Attributes.{name_of}
use Rattle.scram_core.specs.Exchange.{Exchange}

abbrev pub prepared_or : List ℕ → Result (List ℕ) JidFault → List ℕ
prepared_or name (Ok part) = part
prepared_or name (Err fault) = name

-- RFC 5802, 5.1, and RFC 7622, 3.3: the name is prepared as a local part; one that can't be is no account's, whatever it says
abbrev pub user_of : List ℕ → List ℕ
user_of first = prepared_or (name_of first) (local_of (name_of first))

-- the account that an exchange is with has the name of its first text; without an account it is with none
abbrev pub IsUserOf : Exchange → Option (List ℕ) → Type 0
IsUserOf e (Some user) = user ≡ user_of e.first
IsUserOf e None = e.account ≡ account.Unknown
