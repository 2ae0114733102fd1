use Rattle.std.proofs.Common.{rules, ◌≡◌, ℕ, List, IsTrue, subst, sym}
use Rattle.std.proofs.Math.Facts.{Fits-lt-pow}
use Rattle.scram_core.specs.Login.{base64_of, is_server_nonce}
use Rattle.conn_asks.proofs.Nonces.{dice_nonce}
use Rattle.conn_asks.proofs.login.nonce_of.Goals as goal

pub returns-clause-nonce : goal.returns-clause-nonce
returns-clause-nonce c =
    let is : c.into_bytes.result.items ≡ base64_of c.args.dice.now = search rules in
    subst (λ (x : List ℕ). IsTrue (is_server_nonce x)) (sym is)
    (dice_nonce c.args.dice.now (λ i. Fits-lt-pow (c.type_inv.dice i)) c.requires)
