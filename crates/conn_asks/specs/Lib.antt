pub mod Texts
pub mod StreamErrors
pub mod Requests
pub mod Users
pub mod Logins
pub mod Asking
