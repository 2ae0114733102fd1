-- The equation of a login: RFC 5802, 3. A hash is a function on lists of bytes.
use Rattle.std.specs.Prelude.{◌≡◌, ℕ, List, ◌++◌, length, codes, Bool, IsTrue, ◌&&◌, nat_lt, nat_le}
use Rattle.std.specs.List.{list_all}
use Rattle.std.specs.Fmt.{decimal}
use Rattle.base64.specs.Engines.{standard}
use Rattle.base64.specs.GeneralPurpose.{encode_of, IsBytes}
use Rattle.hmac_kdf.specs.Hi.{exclusive_or}
use Rattle.hmac_kdf.specs.Hmac.{hmac}
use Rattle.scram_core.specs.Expressions.{has, IsText}
use Rattle.scram_core.specs.Grammar.{printable, client_first_message, client_final_message}
use Rattle.scram_core.specs.Attributes.{header_of, bare_of, nonce_of_first, nonce_of_server, binding_of, nonce_of_last, without_proof, proof_of}

-- RFC 4648, 4
abbrev pub base64_of : List ℕ → List ℕ
base64_of bytes = encode_of standard bytes

-- server-first-message = nonce "," salt "," iteration-count
abbrev pub server_first : List ℕ → List ℕ → ℕ → List ℕ
server_first nonce salt rounds = codes "r=" ++ nonce ++ codes ",s=" ++ base64_of salt ++ codes ",i=" ++ decimal rounds

-- The server's own part of a nonce: 1 to 256 bytes, each printable and no comma.
abbrev pub is_server_nonce : List ℕ → Bool
is_server_nonce own = nat_lt 0 (length own) && (nat_le (length own) 256 && list_all (has printable) own)

-- The text answers this client-first-message: its nonce is the client's, and then the server's own.
pub record IsServerFirst (first server : List ℕ) : Type 0 where
  pub own : List ℕ
  pub salt : List ℕ
  pub rounds : ℕ
  pub is_nonce : IsTrue (is_server_nonce own)
  pub text : server ≡ server_first (nonce_of_first first ++ own) salt rounds

-- AuthMessage := client-first-message-bare + "," + server-first-message + "," + client-final-message-without-proof
abbrev pub auth_message : List ℕ → List ℕ → List ℕ → List ℕ
auth_message first server last = bare_of first ++ codes "," ++ server ++ codes "," ++ without_proof last

-- ClientProof := ClientKey XOR HMAC(StoredKey, AuthMessage), and StoredKey := H(ClientKey).
pub record IsProof (hash : List ℕ → List ℕ) (stored message proof : List ℕ) : Type 0 where
  pub long : length proof ≡ length (hmac hash stored message)
  pub holds : hash (exclusive_or proof (hmac hash stored message)) ≡ stored

-- The value is a proof in base64.
pub record IsProofText (hash : List ℕ → List ℕ) (stored message value : List ℕ) : Type 0 where
  pub proof : List ℕ
  pub bytes : IsBytes proof
  pub coded : value ≡ base64_of proof
  pub proves : IsProof hash stored message proof

-- The client proves by these three texts that it knows the key that StoredKey is the hash of.
pub record Proves (hash : List ℕ → List ℕ) (stored first server last : List ℕ) : Type 0 where
  pub first_text : IsText client_first_message first
  pub server_text : IsServerFirst first server
  pub last_text : IsText client_final_message last
  pub binding : binding_of last ≡ base64_of (header_of first)
  pub nonce : nonce_of_last last ≡ nonce_of_server server
  pub proof : IsProofText hash stored (auth_message first server last) (proof_of last)

-- The value is these bytes in base64, and no others.
pub record IsDecoded (value bytes : List ℕ) : Type 0 where
  pub coded : value ≡ base64_of bytes
  pub are_bytes : IsBytes bytes
  pub alone : (others : List ℕ) → IsBytes others → value ≡ base64_of others → others ≡ bytes

-- It is not base64.
abbrev pub IsNoBase64 : List ℕ → Type 0
IsNoBase64 value = (bytes : List ℕ) → IsBytes bytes → value ≡ base64_of bytes → ⊥

-- ServerSignature := HMAC(ServerKey, AuthMessage), in server-final-message = "v=" base64
abbrev pub server_final : (List ℕ → List ℕ) → List ℕ → List ℕ → List ℕ
server_final hash server_key message = codes "v=" ++ base64_of (hmac hash server_key message)
