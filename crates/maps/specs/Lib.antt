pub mod Faults
pub mod Changes
pub mod Copies
