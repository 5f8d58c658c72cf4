pub mod Naming
pub mod Tabling
