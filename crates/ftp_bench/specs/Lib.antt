pub mod Words
pub mod Moving
pub mod Appending
pub mod Client
