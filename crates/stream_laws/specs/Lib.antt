pub mod ItemLists
pub mod CallLists
pub mod Written
