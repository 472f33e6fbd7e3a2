pub mod Orders
pub mod Naming
pub mod Places
pub mod Cutting
pub mod Obeying
pub mod Known
pub mod Chains
