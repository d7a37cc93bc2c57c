pub mod Granules
pub mod Descent
pub mod Visit
