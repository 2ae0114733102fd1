-- An exchange between a client and the server, and what the server answers.
use Rattle.std.specs.Prelude.{◌≡◌, ◌≢◌, ℕ, ◌⊎◌, List, [], ◌++◌, drop, codes}
use Rattle.sha1.specs.Sha1.{sha1}
use Rattle.sha2.specs.Sha256.{sha256}
use Rattle.scram_core.specs.declared.Mechanism.{Mechanism}
use Rattle.scram_core.specs.declared.Mechanism.TheVariants as mechanism
use Rattle.scram_core.specs.declared.Keys.{Keys}
use Rattle.scram_core.specs.declared.Found.{Found}
use Rattle.scram_core.specs.declared.Found.TheVariants as found
use Rattle.scram_core.specs.declared.ScramFault.{ScramFault}
use Rattle.scram_core.specs.declared.ScramFault.TheVariants as fault
use Rattle.scram_core.specs.declared.proof.Account.{Account}
use Rattle.scram_core.specs.declared.proof.Account.TheVariants as account
use Rattle.scram_core.specs.Expressions.{IsText}
use Rattle.scram_core.specs.Grammar.{client_first_message, client_final_message}
use Rattle.scram_core.specs.Places.{IsPlace}
use Rattle.scram_core.specs.Attributes.{unescaped, header_of, authzid_of, name_of, nonce_of_first, nonce_of_server, binding_of, nonce_of_last}
use Rattle.scram_core.specs.Login.{base64_of, server_first, server_final, IsProofText, Proves}

-- What the client's first text gave, and what the server added.
pub record Exchange : Type 0 where
  pub first : List ℕ  -- the client-first-message
  pub own : List ℕ  -- the server's part of the nonce
  pub salt : List ℕ
  pub rounds : ℕ
  pub account : Account

-- the server-first-message of an exchange
abbrev pub challenge_of : Exchange → List ℕ
challenge_of e = server_first (nonce_of_first e.first ++ e.own) e.salt e.rounds

-- The keys of an account under a mechanism.
abbrev pub known : Mechanism → Keys → Account
known mechanism.Sha1 keys = account.Sha1 keys.stored1 keys.server1
known mechanism.Sha256 keys = account.Sha256 keys.stored256 keys.server256

-- What was found of a name: without an account there are 4096 rounds, with a salt that stands for one.
abbrev pub account_of : Mechanism → Found → Account
account_of m (found.Known keys) = known m keys.now
account_of m (found.Unknown salt) = account.Unknown

abbrev pub salt_of : Found → List ℕ
salt_of (found.Known keys) = keys.now.salt.items
salt_of (found.Unknown salt) = salt

abbrev pub rounds_of : Found → ℕ
rounds_of (found.Known keys) = keys.now.rounds
rounds_of (found.Unknown salt) = 4096

abbrev pub IsKnown : Account → Type 0
IsKnown account.Unknown = ⊥
IsKnown a = Unit {0}

-- These three texts prove the login to an account: to none where the name is unknown.
abbrev pub ProvesTo : Account → List ℕ → List ℕ → List ℕ → Type 0
ProvesTo (account.Sha1 stored key) first server last = Proves sha1 stored first server last
ProvesTo (account.Sha256 stored key) first server last = Proves sha256 stored first server last
ProvesTo account.Unknown first server last = ⊥

-- The equation of a login: the three texts prove it by the keys, under the mechanism.
abbrev pub proves : Keys → Mechanism → List ℕ → List ℕ → List ℕ → Type 0
proves keys m first server last = ProvesTo (known m keys) first server last

-- the same of the proof alone
abbrev pub ProofTextTo : Account → List ℕ → List ℕ → Type 0
ProofTextTo (account.Sha1 stored key) message value = IsProofText sha1 stored message value
ProofTextTo (account.Sha256 stored key) message value = IsProofText sha256 stored message value
ProofTextTo account.Unknown message value = ⊥

-- The text is the server-final-message.
abbrev pub IsSuccess : Account → List ℕ → List ℕ → Type 0
IsSuccess (account.Sha1 stored key) message text = text ≡ server_final sha1 key message
IsSuccess (account.Sha256 stored key) message text = text ≡ server_final sha256 key message
IsSuccess account.Unknown message text = ⊥

-- An authzid is absent, or it is the name at the domain.
abbrev pub IsOwnAuthzid : List ℕ → List ℕ → Type 0
IsOwnAuthzid first domain = (authzid_of first ≡ []) ⊎ (unescaped (drop 2 (authzid_of first)) ≡ name_of first ++ codes "@" ++ domain)

abbrev pub IsOtherAuthzid : List ℕ → List ℕ → Type 0
IsOtherAuthzid first domain = (authzid_of first ≢ []) × (unescaped (drop 2 (authzid_of first)) ≢ name_of first ++ codes "@" ++ domain)

-- why a first text is refused
abbrev pub IsHelloFault : List ℕ → List ℕ → ScramFault → Type 0
IsHelloFault first domain fault.NoMemory = Unit {0}
IsHelloFault first domain (fault.Malformed place) = IsPlace client_first_message first place
IsHelloFault first domain fault.BadAuthzid = IsText client_first_message first × IsOtherAuthzid first domain
IsHelloFault first domain f = ⊥

-- the last text has the binding and the nonce of the other two
pub record IsOfExchange (e : Exchange) (last : List ℕ) : Type 0 where
  pub text : IsText client_final_message last
  pub binding : binding_of last ≡ base64_of (header_of e.first)
  pub nonce : nonce_of_last last ≡ nonce_of_server (challenge_of e)

-- why a last text is refused: the first of these that fits
abbrev pub IsLastFault : Exchange → List ℕ → ScramFault → Type 0
IsLastFault e last fault.NoMemory = Unit {0}
IsLastFault e last (fault.Malformed place) = IsPlace client_final_message last place
IsLastFault e last fault.BindingDiffers = IsText client_final_message last × (binding_of last ≢ base64_of (header_of e.first))
IsLastFault e last fault.NonceDiffers =
    IsText client_final_message last × (binding_of last ≡ base64_of (header_of e.first))
    × (nonce_of_last last ≢ nonce_of_server (challenge_of e))
IsLastFault e last fault.ProofDiffers = IsOfExchange e last × (ProvesTo e.account e.first (challenge_of e) last → ⊥)
IsLastFault e last fault.BadAuthzid = ⊥
