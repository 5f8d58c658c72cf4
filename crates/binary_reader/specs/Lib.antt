pub mod BinaryReaderInCode
