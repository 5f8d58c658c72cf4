pub mod Answering
pub mod Reading
