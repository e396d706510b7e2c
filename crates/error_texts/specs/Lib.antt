pub mod Buffer
pub mod Contents
pub mod Digests
pub mod Errors
pub mod Rows
