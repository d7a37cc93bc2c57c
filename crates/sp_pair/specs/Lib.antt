pub mod Compacting
pub mod Pairs
pub mod Settling
