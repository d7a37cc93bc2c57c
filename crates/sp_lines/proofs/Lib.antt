pub mod Results
pub mod CutLines
mod Fronts
pub mod Whole
pub mod Hearing
pub mod Taking
pub mod Reading
