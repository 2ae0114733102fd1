pub mod Beginning
pub mod Ringing
pub mod Visits
