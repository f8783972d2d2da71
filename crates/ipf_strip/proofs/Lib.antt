pub mod Judged
pub mod Places
pub mod Passed
pub mod StrippedStreams
pub mod ImmediateLists
pub mod UndoneInsertions
