pub mod ReplicateLaws
