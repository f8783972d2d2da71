pub mod Faults
pub mod Asc
pub mod AscExact
