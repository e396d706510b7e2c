pub mod Inherited
pub mod PartSpans
pub mod Passing
mod Rows
pub mod StateHeads
