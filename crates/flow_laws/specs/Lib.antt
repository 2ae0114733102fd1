pub mod Standing
pub mod Steps
pub mod Causes
pub mod Items
