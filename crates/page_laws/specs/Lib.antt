pub mod Parts
pub mod Along
pub mod Fresh
pub mod Pairs
pub mod Ahead
pub mod Theorems
