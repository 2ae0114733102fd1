pub mod Openings
pub mod Turns
pub mod Stories
pub mod Halls
pub mod Desks
pub mod Greetings
