pub mod Faults
pub mod Inserting
pub mod Rules
pub mod Relation
pub mod Laws
pub mod Steps
