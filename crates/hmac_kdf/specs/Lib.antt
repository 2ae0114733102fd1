pub mod Hi
pub mod Hmac
pub mod Keyed
