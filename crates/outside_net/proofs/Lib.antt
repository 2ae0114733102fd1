pub mod PostLemmas
