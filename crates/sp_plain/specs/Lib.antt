pub mod Place
pub mod Taking
pub mod Undoing
