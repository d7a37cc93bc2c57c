pub mod Summing
pub mod Stressing
