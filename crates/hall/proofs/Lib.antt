pub mod StoryLaws
pub mod TurnLaws
pub mod AnswerLaws
pub mod DeskLaws
pub mod GreetingLemmas
