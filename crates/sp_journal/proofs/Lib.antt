mod Bounds
mod Chunks
mod Corner
pub mod Crashes
mod Framing
mod Heads
pub mod Kinding
pub mod Making
pub mod Opened
pub mod Ordering
pub mod Outcomes
mod Pages
pub mod Passing
mod Payloads
pub mod Prefixes
mod Readers
pub mod Scans
mod Turning
mod Turns
pub mod Walking
pub mod Smallness
