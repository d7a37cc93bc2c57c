pub mod Covering
pub mod Numbered
mod Way
mod Parts
mod Walk
mod Opening
mod Turn
pub mod Covered
