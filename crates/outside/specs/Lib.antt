pub mod Answers
pub mod Told
pub mod Other
pub mod Plan
pub mod Stock
pub mod Begins
pub mod Files
