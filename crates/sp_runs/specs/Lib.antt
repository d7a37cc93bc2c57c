pub mod Scripts
pub mod Writing
pub mod Running
pub mod Holding
pub mod Opening
