pub mod Walked
pub mod Levels
pub mod Listening
