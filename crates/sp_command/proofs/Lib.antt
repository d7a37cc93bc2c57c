pub mod Asking
pub mod Joining
pub mod Meaning
pub mod Numerals
pub mod Ranges
pub mod Settings
pub mod Steps
pub mod Walking
