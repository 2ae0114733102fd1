pub mod Conjunctions
pub mod Drills
pub mod Endings
pub mod GrammarLemmas
pub mod Passwords
pub mod Servings
pub mod TaskLemmas
