pub mod WideLemmas
pub mod FieldsLemmas
pub mod FieldsReading
pub mod HeaderLemmas
pub mod ReadLemmas
pub mod BodyLemmas
mod PartLemmas
pub mod OutcomeLemmas
pub mod HeaderLaws
pub mod LineLemmas
pub mod AnyLemmas
mod V2Examples
pub mod Cuts
pub mod Numbers
pub mod Scan
mod Examples
