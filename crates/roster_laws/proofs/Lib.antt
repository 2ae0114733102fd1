mod AddressLemmas
pub mod RosterLemmas
pub mod EffectLemmas
pub mod KeepLemmas
pub mod TellLemmas
pub mod ListLemmas
pub mod StayLemmas
pub mod EndLemmas
