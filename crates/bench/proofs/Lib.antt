pub mod Table
pub mod TrulyDark
