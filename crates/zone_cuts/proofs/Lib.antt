mod Cuts
mod Differences
mod OwnRecords
