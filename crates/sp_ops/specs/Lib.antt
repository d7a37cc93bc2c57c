pub mod Object
pub mod Wanted
pub mod Seen
pub mod Effect
pub mod Changes
pub mod Commit
