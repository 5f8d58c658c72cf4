pub mod ChainInCode
