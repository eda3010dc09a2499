pub mod Hosts
pub mod Names
pub mod Sites
pub mod Tables
mod Examples
