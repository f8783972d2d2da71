pub mod EscapedWrites
pub mod Refusals
pub mod SlotExact
pub mod SlotSteps
pub mod SlotWrites
