pub mod Replies
pub mod Alters
pub mod Promises
