use Rattle.std.proofs.Common.{arith}
use Rattle.std.proofs.lemmas.Fmt.{length-decimal-le}
use Rattle.sm_resume.proofs.Bytes.{All-spelling}
use Rattle.sm_resume.proofs.Parts.{length-spelling, spelling_injective}
use Rattle.sm_resume.proofs.laws.spellings_tell_ids_apart.Goals as goal

pub returns-clause-unique : goal.returns-clause-unique
returns-clause-unique c = spelling_injective

pub returns-clause-short : goal.returns-clause-short
returns-clause-short c = λ id is.
    let number = length-decimal-le 20 id.session (omega arith) (omega (arith, is.session)) is.session in
    omega (arith, length-spelling id is)

pub returns-clause-bytes : goal.returns-clause-bytes
returns-clause-bytes c = All-spelling
