pub mod Rules
pub mod RulesInCode
pub mod Calls
pub mod Promise
pub mod Examples
