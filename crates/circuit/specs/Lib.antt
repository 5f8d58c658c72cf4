pub mod Circuit
pub mod Refusal
pub mod Table
pub mod RulesInCode
pub mod Answer
