pub mod Rules
pub mod Reading
pub mod Closing
pub mod Determined
