pub mod Stopping
pub mod Going
pub mod Calls
pub mod Queueing
pub mod Telling
pub mod Stillness
pub mod Opening
