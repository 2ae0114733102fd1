pub mod Views
pub mod Histories
pub mod Steps
pub mod Passes
pub mod Calls
