-- Paper 01: small cases with the answer that the paper and the Rust give, as tables; proofs/Cases computes them.
pub mod Numbers
pub mod Commands
pub mod Placing
pub mod Full
pub mod Malformed
pub mod Bytes
pub mod Serving
pub mod Storing
