pub mod Builder
pub mod Features
pub mod Ftps
pub mod Host
pub mod Modes
pub mod Settings
pub mod Site
pub mod Texts
