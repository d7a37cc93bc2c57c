pub mod Requested
pub mod Wanted
