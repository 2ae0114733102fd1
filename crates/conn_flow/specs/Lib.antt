pub mod Streams
pub mod Moves
pub mod Duties
pub mod Following
pub mod Flows
pub mod Reasons
pub mod Calls
