pub mod TextLemmas
pub mod Layouts
pub mod Counted
pub mod EachExact
pub mod Every
pub mod ToEnd
pub mod Whole
pub mod TaggedExact
