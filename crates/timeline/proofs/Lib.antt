pub mod Before
pub mod Timed
