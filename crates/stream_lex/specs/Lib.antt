pub mod grammar
pub mod machine
