pub mod JudgeInCode
