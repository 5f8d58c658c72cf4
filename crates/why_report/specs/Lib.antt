pub mod WhyReport
pub mod WhyReportInCode
pub mod Examples
