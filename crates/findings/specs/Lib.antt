pub mod Collected
pub mod FindingLaws
pub mod FindingOrder
pub mod Rows
pub mod Shown
