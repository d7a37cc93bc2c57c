pub mod Whole
pub mod Answers
pub mod Following
pub mod Standing
pub mod Starting
