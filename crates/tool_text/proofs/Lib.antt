pub mod Numbered
pub mod Behind
