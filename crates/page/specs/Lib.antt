pub mod Rings
pub mod Reads
pub mod Indices
