mod Joining
mod Laws
mod BadLines
mod Answering
mod Batching
mod Closing
mod Courses
mod Pointing
mod Operating
mod Stalling
mod Telling
mod Waking
mod Going
mod Ending
mod Running
mod Leaving
pub mod Batches
pub mod Each
pub mod Reporting
pub mod Handling
pub mod Accounting
