pub mod Whole
pub mod Shifts
pub mod Changes
