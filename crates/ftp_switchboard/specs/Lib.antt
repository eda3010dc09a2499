pub mod Used
pub mod Settled
pub mod Bits
pub mod Board
pub mod Inside
pub mod Pairs
pub mod Rows
