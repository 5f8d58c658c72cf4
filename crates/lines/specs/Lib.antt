pub mod ShapeInCode
pub mod LinesInCode
