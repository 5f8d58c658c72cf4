pub mod Lamps
pub mod Reporting
pub mod Determined
pub mod Closing
