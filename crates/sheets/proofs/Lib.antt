pub mod Wipes
pub mod Marking
