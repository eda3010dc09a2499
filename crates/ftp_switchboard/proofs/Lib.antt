mod SettledLemmas
pub mod BoardLemmas
pub mod InsideLemmas
pub mod KeptLemmas
pub mod KeyLemmas
pub mod PortsLemmas
pub mod RowLemmas
pub mod TableLemmas
pub mod Words
