pub mod Marking
pub mod Tabling
pub mod Drawn
