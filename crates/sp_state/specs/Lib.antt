pub mod Stages
pub mod Sketches
pub mod Held
