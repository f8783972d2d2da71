pub mod Holding
pub mod Giving
