pub mod Faults
pub mod Files
pub mod History
pub mod Laws
pub mod Membership
pub mod Moments
pub mod Shelves
