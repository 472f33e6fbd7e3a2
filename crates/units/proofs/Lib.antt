pub mod Bits
pub mod Words
pub mod Sizes
pub mod Rows
pub mod Listing
