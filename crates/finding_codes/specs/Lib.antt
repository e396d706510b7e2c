pub mod Code
pub mod Rows
pub mod Rule
pub mod Table
pub mod Tally
