-- What a client sends to log in (RFC 6120, 6.4), and what comes of it by SCRAM (RFC 5802).
use Rattle.std.specs.Prelude.{◌≡◌, ◌⊎◌, ℕ, List, [], ◌∷◌, take, codes, bytes_eq, Option, Some, None, Result, Ok, Err, if◌then◌else◌}
use Rattle.sha2.specs.Sha256.{sha256}
use Rattle.base64.specs.GeneralPurpose.{IsBytes}
use Rattle.hmac_kdf.specs.Hmac.{hmac}
use Rattle.stanza_tree.specs.Attributes.{attr_of}
use Rattle.stanza_tree.specs.Children.{words_of}
use Rattle.stanza_tree.specs.declared.node.Element.{Element}
use Rattle.jid_core.specs.Preparation.{local_of}
use Rattle.jid_core.specs.declared.fault.JidFault.{JidFault}
use Rattle.scram_core.specs.declared.Mechanism.{Mechanism}
use Rattle.scram_core.specs.declared.Mechanism.TheVariants.{Sha1, Sha256}
use Rattle.scram_core.specs.declared.ScramFault.{ScramFault}
use Rattle.scram_core.specs.declared.ScramFault.TheVariants as fault
use Rattle.scram_core.specs.declared.proof.Account.TheVariants as account
use Rattle.scram_core.specs.Attributes.{name_of}
use Rattle.scram_core.specs.Expressions.{IsText}
use Rattle.scram_core.specs.Grammar.{client_first_message}
use Rattle.scram_core.specs.Login.{base64_of, IsNoBase64, auth_message}
use Rattle.scram_core.specs.Exchange.{Exchange, challenge_of, known, ProvesTo, IsSuccess, IsOwnAuthzid, IsHelloFault, IsLastFault}
use Rattle.account_book.specs.declared.account.Account.{Account}
use Rattle.account_book.specs.Lists.{Book, named}
use Rattle.conn_asks.specs.Users.{user_of}
use Rattle.conn_asks.specs.declared.login.Sasl.{Sasl}
use Rattle.conn_asks.specs.declared.login.Sasl.TheVariants.{Auth, Response, Aborts}
use Rattle.conn_asks.specs.declared.login.Exchanging.{Exchanging}
use Rattle.conn_asks.specs.declared.login.Exchanging.TheVariants.{Outside, Invited, Challenged}
use Rattle.conn_asks.specs.declared.login.Verdict.{Verdict}
use Rattle.conn_asks.specs.declared.login.Verdict.TheVariants.{Invites, Greets, Succeeds, Fails}
use Rattle.conn_asks.specs.declared.failure.Failure.{Failure}
use Rattle.conn_asks.specs.declared.failure.Failure.TheVariants.{Aborted, IncorrectEncoding, InvalidAuthzid, InvalidMechanism, MalformedRequest, NotAuthorized}

-- The elements.

-- RFC 5802, 4, and RFC 7677, 1
abbrev pub mechanism_named : List ℕ → Option Mechanism
mechanism_named name =
    if bytes_eq name (codes "SCRAM-SHA-256") then Some Sha256
    else if bytes_eq name (codes "SCRAM-SHA-1") then Some Sha1
    else None

abbrev pub mechanism_in : Option (List ℕ) → Option Mechanism
mechanism_in None = None
mechanism_in (Some name) = mechanism_named name

abbrev pub sasl_named : List ℕ → Element → Option Sasl
sasl_named local e =
    if bytes_eq local (codes "auth") then Some (Auth (mechanism_in (attr_of (codes "mechanism") e.attrs)) (words_of e.children))
    else if bytes_eq local (codes "response") then Some (Response (words_of e.children))
    else if bytes_eq local (codes "abort") then Some Aborts
    else None

abbrev pub sasl_of : Element → Option Sasl
sasl_of e = if bytes_eq e.name.space (codes "urn:ietf:params:xml:ns:xmpp-sasl") then sasl_named e.name.local e else None

-- The exchange.

-- sixteen bytes in place of the salt of an unknown name: always the same, and unknown to one who doesn't know the secret
abbrev pub decoy : Book → List ℕ → List ℕ
decoy accounts user = take 16 (hmac sha256 accounts.secret user)

-- an exchange with an account
abbrev pub exchange_known : Mechanism → List ℕ → List ℕ → Account → Exchange
exchange_known m first own a = record { first = first; own = own; salt = a.keys.salt.items; rounds = a.keys.rounds; account = known m a.keys }

-- and with a name that has none
abbrev pub exchange_unknown : List ℕ → List ℕ → List ℕ → Exchange
exchange_unknown first own salt = record { first = first; own = own; salt = salt; rounds = 4096; account = account.Unknown }

abbrev pub exchange_with : Book → Mechanism → List ℕ → List ℕ → Option Account → Exchange
exchange_with accounts m first own (Some a) = exchange_known m first own a
exchange_with accounts m first own None = exchange_unknown first own (decoy accounts (user_of first))

-- the server's part of the nonce is random bytes in base64
abbrev pub exchange_of : Book → Mechanism → List ℕ → List ℕ → Exchange
exchange_of accounts m first dice = exchange_with accounts m first (base64_of dice) (named (user_of first) accounts.accounts)

-- RFC 6120, 6.5: the failure that a fault of a text is; want of memory is none
abbrev pub failure_of : ScramFault → Option Failure
failure_of fault.NoMemory = None
failure_of (fault.Malformed place) = Some MalformedRequest
failure_of fault.BadAuthzid = Some InvalidAuthzid
failure_of fault.NonceDiffers = Some NotAuthorized
failure_of fault.BindingDiffers = Some NotAuthorized
failure_of fault.ProofDiffers = Some NotAuthorized

-- What comes of an element.

-- a first text: no client-first-message, or one for another identity; or it is answered
abbrev pub Opens : List ℕ → Mechanism → List ℕ → Verdict → Type 0
Opens domain m first (Fails f) = (fault : ScramFault) × IsHelloFault first domain fault × (failure_of fault ≡ Some f)
Opens domain m first (Greets n text) = IsText client_first_message first × IsOwnAuthzid first domain × (n ≡ m) × (text ≡ first)
Opens domain m first (Invites n) = ⊥
Opens domain m first (Succeeds user success) = ⊥

-- a last text: it proves the login by the equation of RFC 5802, 3, or it has a fault
abbrev pub Closes : Exchange → List ℕ → Verdict → Type 0
Closes e last (Fails f) = (fault : ScramFault) × IsLastFault e last fault × (failure_of fault ≡ Some f)
Closes e last (Succeeds user success) =
    ProvesTo e.account e.first (challenge_of e) last × IsSuccess e.account (auth_message e.first (challenge_of e) last) success
    × (user ≡ user_of e.first)
Closes e last (Invites m) = ⊥
Closes e last (Greets m first) = ⊥

-- words that are not base64 fail; else the bytes that they are decide (RFC 6120, 6.4.2 and 6.4.3)
abbrev pub Decodes : List ℕ → (List ℕ → Verdict → Type 0) → Verdict → Type 0
Decodes words Judges verdict =
    (IsNoBase64 words × (verdict ≡ Fails IncorrectEncoding)) ⊎ ((bytes : List ℕ) × IsBytes bytes × (words ≡ base64_of bytes) × Judges bytes verdict)

-- what comes out of turn is malformed
abbrev pub IsOutOfTurn : List ℕ → Verdict → Type 0
IsOutOfTurn bytes verdict = verdict ≡ Fails MalformedRequest

-- a mechanism that is offered is named
abbrev pub JudgedAuth : List ℕ → Exchanging → Mechanism → List ℕ → Verdict → Type 0
JudgedAuth domain Outside m [] verdict = verdict ≡ Invites m
JudgedAuth domain Outside m (b ∷ words) verdict = Decodes (b ∷ words) (Opens domain m) verdict
JudgedAuth domain (Invited n) m words verdict = Decodes words IsOutOfTurn verdict
JudgedAuth domain (Challenged e) m words verdict = Decodes words IsOutOfTurn verdict

abbrev pub JudgedResponse : List ℕ → Exchanging → List ℕ → Verdict → Type 0
JudgedResponse domain Outside words verdict = Decodes words IsOutOfTurn verdict
JudgedResponse domain (Invited m) words verdict = Decodes words (Opens domain m) verdict
JudgedResponse domain (Challenged e) words verdict = Decodes words (Closes e) verdict

-- the verdict on an element, by where the exchange stands
abbrev pub Judged : List ℕ → Exchanging → Sasl → Verdict → Type 0
Judged domain x (Auth None words) verdict = verdict ≡ Fails InvalidMechanism
Judged domain x (Auth (Some m) words) verdict = JudgedAuth domain x m words verdict
Judged domain x (Response words) verdict = JudgedResponse domain x words verdict
Judged domain x Aborts verdict = verdict ≡ Fails Aborted
