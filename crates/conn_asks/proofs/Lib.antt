pub mod Decoding
pub mod Joins
pub mod Nonces
