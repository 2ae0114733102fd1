pub mod Casting
pub mod Changing
pub mod Numbering
pub mod Rooms
