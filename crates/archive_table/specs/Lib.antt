pub mod Archives
pub mod Entries
pub mod Pages
pub mod Tables
