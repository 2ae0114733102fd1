pub mod Archives
pub mod Lists
pub mod Peers
pub mod Sounds
