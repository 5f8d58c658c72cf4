pub mod Lists
pub mod Value
pub mod Cube
pub mod Record
pub mod RecordInCode
pub mod GivenInCode
