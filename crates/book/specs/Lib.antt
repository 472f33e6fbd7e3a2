pub mod Views
pub mod Answers
pub mod Changes
pub mod Questions
