pub mod Frames
pub mod Splitting
pub mod Given
pub mod Reading
