pub mod Words
pub mod Requests
pub mod Sets
pub mod Owned
