mod DateLemmas
mod DigitLemmas
mod Examples
pub mod PlainLemmas
pub mod PathLemmas
pub mod PlaceLemmas
