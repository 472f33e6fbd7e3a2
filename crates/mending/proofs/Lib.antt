pub mod Differences
pub mod Marking
pub mod Emptying
pub mod Renewing
pub mod Exactly
