pub mod Joining
pub mod KeyParts
pub mod Splits
pub mod TagSteps
pub mod TermSteps
