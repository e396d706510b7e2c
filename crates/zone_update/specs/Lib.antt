pub mod Messages
pub mod Operations
pub mod Parts
pub mod Rows
pub mod UpdateSerials
