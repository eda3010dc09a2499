pub mod Tables
pub mod Records
pub mod KeyLemmas
pub mod BlockLemmas
pub mod BlockEdits
mod Examples
