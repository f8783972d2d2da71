pub mod Example
pub mod File
pub mod Laws
