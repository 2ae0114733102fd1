pub mod Houses
pub mod Wholes
pub mod Gates
pub mod Pulls
pub mod Logins
pub mod Resumes
pub mod Bindings
