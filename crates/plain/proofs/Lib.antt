pub mod Some
pub mod Reaching
pub mod Placing
