mod Counts
pub mod GrowingLemmas
pub mod IdLemmas
pub mod ItemLemmas
pub mod StanzaLemmas
