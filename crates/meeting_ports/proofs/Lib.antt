mod PollLemmas
pub mod PostLemmas
