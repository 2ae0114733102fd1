pub mod Addresses
pub mod AsciiParts
pub mod Cuts
pub mod Names
pub mod Preparation
pub mod Held
