pub mod Changes
pub mod Hashes
pub mod Indexes
pub mod Lending
pub mod Sessions
pub mod Tables
pub mod Waking
