pub mod WrittenLine
pub mod FirstLine
pub mod DigitCounts
pub mod WrittenRows
pub mod WrittenText
pub mod WrittenAnswers
