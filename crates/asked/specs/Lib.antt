pub mod Follow
pub mod Call
pub mod Promise
pub mod AskedInCode
pub mod Examples
