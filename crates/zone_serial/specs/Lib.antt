pub mod NextSerials
pub mod Rows
pub mod SerialArithmetic
pub mod SerialLaws
pub mod Serials
