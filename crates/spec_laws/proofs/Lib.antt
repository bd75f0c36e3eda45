pub mod Lists
pub mod Rising
pub mod Nearest
pub mod Log
pub mod Map
pub mod Node
pub mod Wire
