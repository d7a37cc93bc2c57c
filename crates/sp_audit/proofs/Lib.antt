mod Printing
mod Floats
pub mod Serial
