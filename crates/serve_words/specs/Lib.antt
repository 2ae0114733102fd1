pub mod Grammars
pub mod Limits
pub mod Options
