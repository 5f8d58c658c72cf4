pub mod Converting
pub mod Determined
