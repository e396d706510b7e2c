pub mod Hidden
pub mod Owners
pub mod Rows
