pub mod ErrorLemmas
pub mod VersionLemmas
