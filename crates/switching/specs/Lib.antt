pub mod Switching
pub mod Standing
pub mod PlayedPlan
pub mod CutShort
pub mod SwitchAnswers
