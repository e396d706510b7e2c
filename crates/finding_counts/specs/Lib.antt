pub mod Baselines
pub mod CodeCounts
pub mod KeyNumbers
pub mod WordRanks
