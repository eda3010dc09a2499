pub mod Keys
pub mod Failures
pub mod Tally
pub mod Places
pub mod Logins
