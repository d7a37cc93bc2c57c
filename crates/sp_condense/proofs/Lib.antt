pub mod Powers
pub mod Taken
pub mod Stages
pub mod Removing
pub mod Start
pub mod Collapses
pub mod Done
pub mod Ways
