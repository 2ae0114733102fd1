pub mod Faults
pub mod Feeds
pub mod Openings
mod Plays
mod PieceLemmas
mod StreamLemmas
mod Takings
pub mod Valid
