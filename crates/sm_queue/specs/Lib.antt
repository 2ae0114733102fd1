pub mod Counting
pub mod Queues
pub mod Wholes
