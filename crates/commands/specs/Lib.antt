pub mod Accounts
pub mod Commands
pub mod Grammars
pub mod Servings
pub mod StatusLines
