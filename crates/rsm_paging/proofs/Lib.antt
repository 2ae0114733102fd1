pub mod FrontLemmas
pub mod ListedLemmas
pub mod PageExamples
pub mod PageLemmas
pub mod PlaceLemmas
pub mod RiseLemmas
pub mod WalkLemmas
pub mod SpanLemmas
