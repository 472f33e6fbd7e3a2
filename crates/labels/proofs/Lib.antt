pub mod Picked
pub mod Compared
pub mod Gathered
pub mod Told
pub mod Reached
pub mod Written
