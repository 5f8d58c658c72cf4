pub mod Converter
pub mod Examples
