pub mod Faults
pub mod Decoding
pub mod Answering
pub mod Folding
pub mod Laws
pub mod FoldLaws
pub mod Faulty
pub mod Samples
