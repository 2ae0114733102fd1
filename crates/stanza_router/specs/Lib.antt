pub mod Discovery
pub mod Messages
pub mod Places
