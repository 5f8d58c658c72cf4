pub mod Refusing
pub mod Calling
