pub mod Changes
pub mod Deliveries
pub mod Limits
pub mod Sides
pub mod Users
