pub mod Turning
pub mod Playing
