pub mod Numbers
pub mod Endings
pub mod Finding
