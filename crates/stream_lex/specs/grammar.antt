pub mod Classes
pub mod Kinds
pub mod Expressions
pub mod Grammar
pub mod Reading
pub mod Words
