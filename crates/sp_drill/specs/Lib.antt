pub mod Leading
pub mod Drilling
pub mod Hearing
pub mod Telling
