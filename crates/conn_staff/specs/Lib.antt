pub mod Staffs
pub mod Workers
