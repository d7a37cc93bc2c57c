pub mod Areas
pub mod Affected
