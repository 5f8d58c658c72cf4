pub mod Entering
pub mod Knowing
pub mod Defining
pub mod Ordering
pub mod Judging
