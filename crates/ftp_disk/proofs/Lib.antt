pub mod StandingLemmas
pub mod PatternLemmas
pub mod ListingLemmas
pub mod DiskLemmas
pub mod HomeLemmas
pub mod VisibleLemmas
pub mod Examples
