pub mod Compacting
pub mod Ending
pub mod Fetching
pub mod Reporting
