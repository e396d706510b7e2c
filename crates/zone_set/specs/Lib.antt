pub mod DnssecTypes
pub mod MergeHeadOrders
pub mod MergeHeads
pub mod Lines
pub mod Merges
pub mod Rows
pub mod Runs
pub mod Selections
