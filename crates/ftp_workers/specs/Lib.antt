pub mod Carried
pub mod Header
pub mod Kept
pub mod Listening
pub mod OwnStorage
pub mod Proxied
pub mod Telling
