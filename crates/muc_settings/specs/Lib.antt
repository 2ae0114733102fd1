pub mod Drafts
pub mod Settings
