pub mod AddressLemmas
pub mod AsciiLemmas
pub mod FitLemmas
pub mod LoweringLemmas
pub mod NameLemmas
pub mod NfcLemmas
pub mod PreparationLemmas
pub mod ReadLemmas
