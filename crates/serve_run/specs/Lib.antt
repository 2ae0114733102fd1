pub mod Limits
pub mod Services
