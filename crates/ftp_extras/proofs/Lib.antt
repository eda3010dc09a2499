pub mod Appends
pub mod TextLemmas
pub mod LineLemmas
pub mod FineLemmas
pub mod ReplyLemmas
pub mod Examples
pub mod LawLemmas
pub mod RenameLemmas
