pub mod PuttingGates
pub mod RowLines
pub mod WrittenBinary
