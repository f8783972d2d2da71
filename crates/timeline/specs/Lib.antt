pub mod Order
pub mod Bounds
pub mod Plan
pub mod Laws
