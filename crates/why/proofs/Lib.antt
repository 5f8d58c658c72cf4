pub mod Following
pub mod Asking
pub mod Calls
pub mod Keeping
pub mod Explaining
pub mod Answering
