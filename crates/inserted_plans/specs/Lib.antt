pub mod Insertion
pub mod Changes
pub mod Laws
