pub mod Asked
pub mod Copies
pub mod Sums
