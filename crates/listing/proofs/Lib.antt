pub mod Judging
pub mod Needs
pub mod Keeping
pub mod Turning
pub mod Bodies
