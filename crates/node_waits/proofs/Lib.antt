pub mod Wait
