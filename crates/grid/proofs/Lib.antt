pub mod Kept
pub mod Counted
pub mod Removing
