pub mod Named
pub mod Begin
pub mod Slots
pub mod NewEpochs
