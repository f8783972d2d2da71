pub mod Plain
pub mod Trim
pub mod Faults
pub mod Writer
pub mod Words
