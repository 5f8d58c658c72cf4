pub mod PutInCode
