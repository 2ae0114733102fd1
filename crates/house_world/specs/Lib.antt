pub mod Views
pub mod Wholes
pub mod Oldest
pub mod Worlds
pub mod Keeping
pub mod Marks
pub mod Readiness
pub mod Hosting
