pub mod Points
mod Parts
mod Strips
mod Cuts
mod Waiting
mod Left
mod Holes
