pub mod Configs
pub mod Streams
pub mod Joining
pub mod Shown
pub mod Elements
pub mod Sound
pub mod Blocks
