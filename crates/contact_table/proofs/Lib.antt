pub mod ByteLemmas
pub mod OrderLemmas
mod ContactLemmas
mod NameLemmas
mod ListedLemmas
pub mod PairLemmas
pub mod BookLemmas
mod EntryLemmas
mod KeepLemmas
