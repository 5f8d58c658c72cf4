pub mod Verdicts
pub mod Latches
pub mod Judging
pub mod Passing
pub mod Constant
pub mod Nexts
