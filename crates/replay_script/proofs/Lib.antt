mod CharacterLemmas
mod NumberLemmas
mod IdLemmas
mod StanzaLemmas
mod StanzaTexts
mod UserLemmas
mod NoticeLemmas
mod NoticeSizes
pub mod Printing
mod DrillAddresses
pub mod DrillWords
mod DrillEvents
mod DrillOrders
mod DrillTallies
