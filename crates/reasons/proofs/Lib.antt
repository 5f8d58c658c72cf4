pub mod Lines
pub mod Latches
pub mod Groups
