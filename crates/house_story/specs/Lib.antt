pub mod Stanzas
pub mod Story
pub mod Talk
