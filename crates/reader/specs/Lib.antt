pub mod ReaderInCode
