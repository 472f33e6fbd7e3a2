pub mod Holding
pub mod Asked
pub mod Listed
pub mod OfMaps
