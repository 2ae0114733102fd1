-- A last text of the exchange with a proof is a login.
use Rattle.std.proofs.Common.{ℕ, List, IsTrue, refl}
use Rattle.sha1.specs.Sha1.{sha1}
use Rattle.sha2.specs.Sha256.{sha256}
use Rattle.scram_core.specs.declared.proof.Account.{Account}
use Rattle.scram_core.specs.declared.proof.Account.TheVariants as account
use Rattle.scram_core.specs.Expressions.{IsText}
use Rattle.scram_core.specs.Grammar.{client_first_message}
use Rattle.scram_core.specs.Attributes.{proof_of}
use Rattle.scram_core.specs.Login.{is_server_nonce, IsServerFirst, auth_message, IsProofText, Proves}
use Rattle.scram_core.specs.Exchange.{Exchange, challenge_of, ProvesTo, ProofTextTo, IsOfExchange}

pub made : (e : Exchange) → IsTrue (is_server_nonce e.own) → IsServerFirst e.first (challenge_of e)
made e h = record { own = e.own; salt = e.salt; rounds = e.rounds; is_nonce = h; text = refl }

proved : (hash : List ℕ → List ℕ) (stored : List ℕ) (e : Exchange) (last : List ℕ) → IsText client_first_message e.first
    → IsServerFirst e.first (challenge_of e) → IsOfExchange e last
    → IsProofText hash stored (auth_message e.first (challenge_of e) last) (proof_of last)
    → Proves hash stored e.first (challenge_of e) last
proved hash stored e last first own same proof = record {
  first_text = first;
  server_text = own;
  last_text = same.text;
  binding = same.binding;
  nonce = same.nonce;
  proof = proof;
}

pub proves-to : (a : Account) (e : Exchange) (last : List ℕ) → IsText client_first_message e.first
    → IsServerFirst e.first (challenge_of e) → IsOfExchange e last
    → ProofTextTo a (auth_message e.first (challenge_of e) last) (proof_of last)
    → ProvesTo a e.first (challenge_of e) last
proves-to (account.Sha1 stored key) e last first own same proof = proved sha1 stored e last first own same proof
proves-to (account.Sha256 stored key) e last first own same proof = proved sha256 stored e last first own same proof
proves-to account.Unknown e last first own same proof = proof
