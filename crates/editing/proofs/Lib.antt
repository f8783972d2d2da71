pub mod Multiples
pub mod Written
pub mod Running
pub mod FileBytes
