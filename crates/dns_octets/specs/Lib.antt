pub mod Appending
pub mod Lowered
pub mod Octets
pub mod Parsing
pub mod Room
