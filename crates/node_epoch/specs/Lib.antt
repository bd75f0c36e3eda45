pub mod NewEpochs
