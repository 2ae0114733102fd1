pub mod Keyed
pub mod Words
