pub mod Converting
pub mod Fielding
pub mod InTurn
pub mod NameRows
pub mod Printing
