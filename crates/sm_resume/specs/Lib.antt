pub mod Resumption
pub mod Spelling
