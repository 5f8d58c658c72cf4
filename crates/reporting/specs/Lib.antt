pub mod Reporting
pub mod ReportingInCode
