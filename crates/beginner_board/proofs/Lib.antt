pub mod Reading
pub mod Refusing
pub mod Calling
