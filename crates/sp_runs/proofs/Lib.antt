pub mod Growing
mod Emptiness
pub mod Holding
mod Lines
pub mod LastLine
pub mod Shortening
pub mod Telling
pub mod Unstarted
mod Roles
