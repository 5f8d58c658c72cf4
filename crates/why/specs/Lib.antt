pub mod MarksInCode
