mod Blocks
pub mod Finding
