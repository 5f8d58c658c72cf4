pub mod Keeping
pub mod Chaining
pub mod Stopping
pub mod Advancing
pub mod Following
pub mod Beginning
