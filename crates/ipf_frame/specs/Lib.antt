pub mod Frames
pub mod Clean
pub mod Payload
pub mod Slot
pub mod Laws
pub mod Stripping
pub mod StripLaws
