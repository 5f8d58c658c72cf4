pub mod FirstLine
pub mod Judging
pub mod Bodies
pub mod Filling
pub mod FillingKinds
pub mod Answering
