pub mod Finding
pub mod OwnLine
pub mod Judging
pub mod Filling
