pub mod Visible
pub mod Changes
