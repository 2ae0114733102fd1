-- Words that are in base64, and words that are not.
use Rattle.std.proofs.Common.{◌≡◌, ◌⊎◌, inl, inr, refl, ℕ, List, Result, Ok, Err, IfOk}
use Rattle.scram_core.specs.Login.{IsDecoded, IsNoBase64}
use Rattle.conn_asks.specs.declared.failure.Failure.TheVariants.{IncorrectEncoding}
use Rattle.conn_asks.specs.declared.login.Verdict.{Verdict}
use Rattle.conn_asks.specs.declared.login.Verdict.TheVariants.{Fails}
use Rattle.conn_asks.specs.Logins.{Decodes}

pub decodes_some : (words bytes : List ℕ) (J : List ℕ → Verdict → Type 0) (v : Verdict) → IsDecoded words bytes → J bytes v → Decodes words J v
decodes_some words bytes J v d judged = inr (bytes, d.are_bytes, d.coded, judged)

pub decodes_ok : {E : Type 0} (words bytes : List ℕ) (J : List ℕ → Verdict → Type 0) (r : Result Verdict E)
    → IsDecoded words bytes → IfOk r (J bytes) → IfOk r (Decodes words J)
decodes_ok words bytes J (Ok v) d judged = decodes_some words bytes J v d judged
decodes_ok words bytes J (Err e) d judged = tt

pub decodes_none : (words : List ℕ) (J : List ℕ → Verdict → Type 0) → IsNoBase64 words → Decodes words J (Fails IncorrectEncoding)
decodes_none words J h = inl (h, refl)
