mod Asked
mod Silence
mod Completeness
mod Conduct
mod Statuses
