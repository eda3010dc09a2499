pub mod Transfer
pub mod Run
pub mod Turn
pub mod Path
pub mod Listing
pub mod Duration
pub mod Ran
pub mod Uploads
