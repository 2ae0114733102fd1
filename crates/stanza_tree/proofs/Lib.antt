mod AttributeLemmas
pub mod Bounds
mod ContentLemmas
mod CountLemmas
mod DecimalLemmas
mod FrameLemmas
mod HeldLemmas
pub mod LengthLemmas
mod RunLemmas
pub mod SpellingLemmas
pub mod StampLemmas
pub mod Utf8Lemmas
