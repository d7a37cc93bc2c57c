pub mod Joining
pub mod Leading
pub mod Answering
pub mod Drilling
pub mod Stepping
pub mod Going
pub mod Stopping
pub mod Running
mod Told
