pub mod Indices
pub mod Seen
