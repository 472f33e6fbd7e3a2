pub mod Faults
pub mod Plain
pub mod Lists
pub mod Pages
pub mod Saving
pub mod Requests
pub mod Reaching
pub mod Placing
