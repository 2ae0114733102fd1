pub mod Readings
pub mod Runs
pub mod Statuses
pub mod Streams
pub mod Feeding
