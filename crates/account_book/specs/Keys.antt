-- The keys of a password: RFC 5802, 3. A hash is a function on lists of bytes.
use Rattle.std.specs.Prelude.{ℕ, List, codes}
use Rattle.sha1.specs.Sha1.{sha1}
use Rattle.sha2.specs.Sha256.{sha256}
use Rattle.hmac_kdf.specs.Hi.{hi}
use Rattle.hmac_kdf.specs.Hmac.{hmac}
use Rattle.account_book.specs.Entries.{Entry}

-- SaltedPassword := Hi(password, salt, i)
abbrev pub salted_password : (List ℕ → List ℕ) → List ℕ → List ℕ → ℕ → List ℕ
salted_password hash password salt rounds = hi (hmac hash) password salt rounds

-- ClientKey := HMAC(SaltedPassword, "Client Key")
abbrev pub client_key : (List ℕ → List ℕ) → List ℕ → List ℕ
client_key hash salted = hmac hash salted (codes "Client Key")

-- StoredKey := H(ClientKey)
abbrev pub stored_key : (List ℕ → List ℕ) → List ℕ → List ℕ
stored_key hash salted = hash (client_key hash salted)

-- ServerKey := HMAC(SaltedPassword, "Server Key")
abbrev pub server_key : (List ℕ → List ℕ) → List ℕ → List ℕ
server_key hash salted = hmac hash salted (codes "Server Key")

-- the account of a name with a password, of 4096 rounds
abbrev pub entry_for : List ℕ → List ℕ → List ℕ → Entry
entry_for name password salt = record {
  name = name;
  rounds = 4096;
  salt = salt;
  stored1 = stored_key sha1 (salted_password sha1 password salt 4096);
  server1 = server_key sha1 (salted_password sha1 password salt 4096);
  stored256 = stored_key sha256 (salted_password sha256 password salt 4096);
  server256 = server_key sha256 (salted_password sha256 password salt 4096);
}
