pub mod Courses
pub mod Endings
