mod Corners
mod Intervals
