mod Counting
pub mod Endings
mod Pollers
mod Posts
mod Running
