mod Holding
mod Logs
mod Sampling
mod Steps
