pub mod Report
pub mod Bench
