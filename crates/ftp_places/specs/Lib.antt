pub mod Date
pub mod Moment
pub mod Names
pub mod Place
pub mod Laws
