pub mod Broadcasts
pub mod Copies
pub mod DirectedPresence
pub mod Priorities
