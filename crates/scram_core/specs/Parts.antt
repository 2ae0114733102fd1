-- The parts of a text that stand between its commas are the productions of the grammar.
use Rattle.std.specs.Prelude.{◌≡◌, ◌⊎◌, List, ℕ, [], ◌++◌, drop, codes}
use Rattle.scram_core.specs.Expressions.{IsText}
use Rattle.scram_core.specs.Grammar.{gs2_cbind_flag, address, gs2_header, saslname, printable_text}
use Rattle.scram_core.specs.Grammar.{client_first_message_bare, base64, client_final_message_without_proof}
use Rattle.scram_core.specs.Attributes.{first_value, flag_of, authzid_of, header_of, bare_of, nonce_of_first}
use Rattle.scram_core.specs.Attributes.{binding_of, nonce_of_last, without_proof, proof_of}

-- client-first-message = gs2-header client-first-message-bare
pub record HasFirstParts (first : List ℕ) : Type 0 where
  pub whole : first ≡ header_of first ++ bare_of first
  pub flag : IsText gs2_cbind_flag (flag_of first)
  pub authzid : (authzid_of first ≡ []) ⊎ ((authzid_of first ≡ codes "a=" ++ drop 2 (authzid_of first)) × IsText address (drop 2 (authzid_of first)))
  pub header : IsText gs2_header (header_of first)
  pub bare : IsText client_first_message_bare (bare_of first)
  pub name : IsText saslname (first_value (bare_of first))
  pub nonce : IsText (printable_text 255) (nonce_of_first first)

-- client-final-message = client-final-message-without-proof "," proof
pub record HasLastParts (last : List ℕ) : Type 0 where
  pub whole : last ≡ without_proof last ++ codes ",p=" ++ proof_of last
  pub front : IsText client_final_message_without_proof (without_proof last)
  pub binding : IsText base64 (binding_of last)
  pub nonce : IsText (printable_text 511) (nonce_of_last last)
  pub proof : IsText base64 (proof_of last)
