pub mod Entries
pub mod Keys
pub mod Fields
pub mod Lines
pub mod Lists
