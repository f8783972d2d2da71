pub mod Framing
pub mod Cut
pub mod Front
pub mod Framer
pub mod Giving
pub mod Pieces
