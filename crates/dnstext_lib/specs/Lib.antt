pub mod EntryLine
pub mod Print
pub mod Program
pub mod Rows
pub mod Run
