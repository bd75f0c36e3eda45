pub mod Aligned
pub mod NewEpoch
pub mod Begin
