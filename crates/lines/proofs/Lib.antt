pub mod Feeds
pub mod Letters
pub mod Near
pub mod Runs
