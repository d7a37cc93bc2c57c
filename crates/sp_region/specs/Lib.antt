pub mod Region
pub mod Cut
