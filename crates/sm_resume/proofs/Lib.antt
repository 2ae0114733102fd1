pub mod Bytes
pub mod Decimals
pub mod Decisions
pub mod Digits
pub mod Numbers
pub mod Parts
