pub mod Escaped
pub mod EscapedExact
pub mod LatmValue
pub mod LatmExact
pub mod SlotLength
