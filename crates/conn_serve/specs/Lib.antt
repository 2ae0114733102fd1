pub mod Connections
pub mod Entering
pub mod Reading
pub mod Rounds
pub mod Serving
pub mod Shifts
