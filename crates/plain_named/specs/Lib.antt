pub mod Named
pub mod Lines
pub mod Replies
pub mod Logs
pub mod Theorems
pub mod Calls
