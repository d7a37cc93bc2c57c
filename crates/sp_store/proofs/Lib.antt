pub mod Coming
pub mod Keeping
pub mod Stopping
pub mod Versions
