pub mod PortTexts
pub mod Script
mod CountLemmas
mod DeliveryLemmas
mod Examples
mod Exact
pub mod Equal
mod EndingExamples
mod CountExamples
mod PieceExamples
