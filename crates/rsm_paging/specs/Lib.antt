pub mod Matches
pub mod Pages
pub mod Places
pub mod Walks
