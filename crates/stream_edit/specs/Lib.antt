pub mod Targets
pub mod Edited
pub mod Relation
pub mod Laws
pub mod Frames
pub mod Steps
pub mod Giving
