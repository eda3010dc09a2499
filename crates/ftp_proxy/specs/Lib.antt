pub mod V2Header
pub mod Reading
pub mod Any
pub mod Texts
pub mod Header
pub mod Line
