pub mod ValuesInCode
