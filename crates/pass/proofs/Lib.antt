pub mod WorkingTable
pub mod Passing
pub mod Settling
