pub mod BinaryWriterInCode
