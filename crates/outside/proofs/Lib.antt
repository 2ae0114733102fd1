pub mod Adding
mod CleanLemmas
mod CleanPollLemmas
mod DrawLemmas
mod Fronts
mod PollLemmas
mod PostLemmas
mod ScriptLemmas
mod TapeLemmas
pub mod Telling
