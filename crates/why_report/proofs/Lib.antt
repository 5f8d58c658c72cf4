pub mod Pieces
pub mod Known
pub mod Explaining
pub mod Beginning
