pub mod Noted
pub mod Acting
pub mod Given
