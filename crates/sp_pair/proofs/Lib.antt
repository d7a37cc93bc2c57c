pub mod Choices
mod Kinding
mod Refusals
pub mod Renewing
mod Resting
pub mod Roles
mod Stops
