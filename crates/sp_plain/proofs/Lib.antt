pub mod Order
pub mod Keeping
pub mod Handing
pub mod Leading
