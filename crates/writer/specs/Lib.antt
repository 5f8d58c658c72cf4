pub mod WriterInCode
