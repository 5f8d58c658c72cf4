pub mod Walking
pub mod Finding
pub mod Calling
