pub mod Locals
pub mod Kept
pub mod Runs
