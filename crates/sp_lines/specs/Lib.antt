pub mod Cutting
pub mod Hearing
pub mod Keeping
pub mod Reading
pub mod Pending
pub mod Taking
