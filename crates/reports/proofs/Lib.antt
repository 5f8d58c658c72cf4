pub mod Sizes
pub mod Framing
pub mod Sending
