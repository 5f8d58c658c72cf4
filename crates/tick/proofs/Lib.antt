pub mod Ticking
pub mod Determined
