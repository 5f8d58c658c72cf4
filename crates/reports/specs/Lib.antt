pub mod Reports
pub mod ReportsInCode
pub mod Examples
