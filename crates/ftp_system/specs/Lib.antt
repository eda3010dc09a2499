pub mod Address
pub mod Counts
pub mod Edge
pub mod Listen
pub mod Queue
pub mod Telnet
pub mod Uploads
