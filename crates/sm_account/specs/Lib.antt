pub mod Prefixes
pub mod Sessions
pub mod Connections
pub mod Places
pub mod Accounts
pub mod Logs
pub mod Stories
