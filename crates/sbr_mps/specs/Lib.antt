pub mod CoreConfig
pub mod SbrConfig
pub mod Mps212
pub mod Exact
