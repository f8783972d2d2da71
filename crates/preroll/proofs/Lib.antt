pub mod Configs
pub mod UnitFrames
pub mod Rules
pub mod Tried
pub mod OneRule
pub mod NeverMemory
pub mod Judging
