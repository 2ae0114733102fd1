pub mod Listings
pub mod Placings
