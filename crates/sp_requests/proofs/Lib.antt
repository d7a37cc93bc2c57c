pub mod Shorts
pub mod Seating
pub mod Begins
pub mod Starts
pub mod Asked
pub mod Needed
pub mod Deadlocked
pub mod Plotted
