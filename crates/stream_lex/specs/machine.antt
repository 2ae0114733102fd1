pub mod Derivatives
pub mod Characters
pub mod Machine
pub mod Moves
pub mod Turns
pub mod Live
pub mod Rests
pub mod Leading
