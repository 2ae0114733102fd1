pub mod Sums
pub mod Stories
pub mod Keeps
pub mod Stands
pub mod Gathers
pub mod Places
