pub mod Digests
pub mod Glue
pub mod OwnRecords
pub mod Rows
pub mod Servers
pub mod Signers
