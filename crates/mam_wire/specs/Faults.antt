-- Why a query is refused.
use Rattle.std.specs.Prelude.{◌≡◌, Result, Err, ⊤}
use Rattle.mam_wire.specs.declared.fault.QueryFault.{QueryFault}
use Rattle.mam_wire.specs.declared.fault.QueryFault.TheVariants.{NoMemory, BadRequest, NotImplemented}

-- the fault is the one that was to be found; want of memory has no cause in what is read
abbrev pub IsCause : {A : Type 0} → Result A QueryFault → QueryFault → Type 0
IsCause read NoMemory = ⊤
IsCause read BadRequest = read ≡ Err BadRequest
IsCause read NotImplemented = read ≡ Err NotImplemented
