pub mod CubesInCode
