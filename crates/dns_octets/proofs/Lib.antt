pub mod SliceThrough
pub mod Ordered
