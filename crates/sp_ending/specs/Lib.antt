pub mod Tail
pub mod Ends
pub mod Opposing
