use Rattle.std.proofs.Common.{List, ℕ, refl}
use Rattle.scram_core.specs.declared.ScramFault.{ScramFault}
use Rattle.scram_core.specs.declared.ScramFault.TheVariants as fault
use Rattle.scram_core.specs.declared.proof.Account.TheVariants as account
use Rattle.scram_core.specs.Exchange.{Exchange, IsOfExchange, IsLastFault}
use Rattle.scram_core.proofs.laws.refusals_do_not_tell_of_an_account.Goals as goal

abbrev unknown : Exchange → Exchange
unknown e = record e { account = account.Unknown }

of_exchange : (e : Exchange) (last : List ℕ) → IsOfExchange e last → IsOfExchange (unknown e) last
of_exchange e last h = record { text = h.text; binding = h.binding; nonce = h.nonce }

refused : (e : Exchange) (last : List ℕ) (f : ScramFault) → IsLastFault e last f → IsLastFault (unknown e) last f
refused e last fault.NoMemory h = h
refused e last (fault.Malformed place) h = h
refused e last fault.BadAuthzid h = h
refused e last fault.NonceDiffers h = h
refused e last fault.BindingDiffers h = h
refused e last fault.ProofDiffers h = (of_exchange e last h.0, λ k. k)

pub returns-clause-challenge : goal.returns-clause-challenge
returns-clause-challenge c = λ e. refl

pub returns-clause-refusal : goal.returns-clause-refusal
returns-clause-refusal c = refused
