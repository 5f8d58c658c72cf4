pub mod Refusing
pub mod Left
pub mod Laws
pub mod Week
pub mod Settled
pub mod Determined
