pub mod Ascii
pub mod Mistakes
pub mod Rows
pub mod Similar
pub mod Word
