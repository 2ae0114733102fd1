pub mod ListingLemmas
pub mod ReceiverLemmas
