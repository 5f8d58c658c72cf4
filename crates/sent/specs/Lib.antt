pub mod Answer
pub mod Call
pub mod Promise
pub mod SentInCode
pub mod Examples
