pub mod Removal
pub mod Taking
pub mod Staging
pub mod Way
