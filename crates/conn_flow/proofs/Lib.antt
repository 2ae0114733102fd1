mod Afters
mod Replies
pub mod ItemEnds
mod Ends
mod Reasoning
mod ReplyEnds
mod Calling
