pub mod Conclusions
pub mod Goings
pub mod Openings
