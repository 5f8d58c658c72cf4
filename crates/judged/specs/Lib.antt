pub mod JudgedInCode
