pub mod Books
pub mod Folders
pub mod Marks
pub mod Orders
pub mod Tables
