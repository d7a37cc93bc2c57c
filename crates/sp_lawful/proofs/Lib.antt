pub mod Inserting
pub mod Putting
