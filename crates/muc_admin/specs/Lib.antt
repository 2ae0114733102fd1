pub mod Administration
pub mod Afterwards
pub mod Items
pub mod Listings
pub mod Refusals
pub mod Sets
pub mod Telling
