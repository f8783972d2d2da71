pub mod Lines
pub mod Growing
pub mod CheckSteps
pub mod Headlines
pub mod PairLemmas
pub mod ListedLemmas
pub mod TargetLemmas
