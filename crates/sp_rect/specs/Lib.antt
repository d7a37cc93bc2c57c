pub mod Plane
pub mod Inside
pub mod Value
pub mod Store
pub mod Serial
